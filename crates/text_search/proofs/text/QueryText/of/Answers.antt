use Rattle.std.proofs.Common.{◌+◌, map, refl, ap, sym, subst, ◌∙◌, arith}
use Rattle.gcl_model.specs.FormOf.{form_of}
use Rattle.word_tokens.proofs.PartLemmas.{few_tokens}
use Rattle.token_places.specs.Places.{Placed}
use Rattle.text_search.specs.Names.{names_of}
use Rattle.text_search.specs.Tables.{AreEmpty, noted}
use Rattle.text_search.proofs.FileLemmas.{file_noted, kept_of, kept_text}
use Rattle.text_search.proofs.text.QueryText.of.Goals as goal

pub overflow_add-result : goal.overflow_add-result
overflow_add-result c = omega (arith, c.in_ok-last.ensures.last, few_tokens c.args.bytes.now, c.requires)

pub invariant_of-result : goal.invariant_of-result
invariant_of-result c =
    let none : AreEmpty c.in_ok-table.table = subst AreEmpty (sym c.in_ok-table.ensures) tt in
    kept_of c.args.bytes.now c.put_names.new.table c.note-2.new.self c.in_ok-last.last (c.in_ok-last.last + 1) c.requires c.in_ok-last.ensures.last refl
    (file_noted c.args.bytes.now c.put_names.new.table c.note.new.self c.note_tokens.new.table c.note-2.new.self c.in_ok-last.last (c.in_ok-put_names.ensures.empty none)
    (c.in_ok-note.ensures ∙ ap (λ (t : Placed). map (noted t.token 0) c.put_names.new.table) c.file_start.ensures) c.in_ok-last.ensures.noted c.in_ok-last.ensures.last
    (c.in_ok-note-2.ensures ∙ ap (λ (t : Placed). map (noted t.token c.in_ok-last.last) c.note_tokens.new.table) c.file_end.ensures))

pub returns : goal.returns
returns c =
    let none : AreEmpty c.in_ok-table.table = subst AreEmpty (sym c.in_ok-table.ensures) tt in
    kept_text c.args.bytes.now c.in_ok-table.table c.put_names.new.table c.note-2.new.self (names_of (form_of c.args.expr.now)) c.in_ok-table.ensures c.in_ok-put_names.ensures.named
    (file_noted c.args.bytes.now c.put_names.new.table c.note.new.self c.note_tokens.new.table c.note-2.new.self c.in_ok-last.last (c.in_ok-put_names.ensures.empty none)
    (c.in_ok-note.ensures ∙ ap (λ (t : Placed). map (noted t.token 0) c.put_names.new.table) c.file_start.ensures) c.in_ok-last.ensures.noted c.in_ok-last.ensures.last
    (c.in_ok-note-2.ensures ∙ ap (λ (t : Placed). map (noted t.token c.in_ok-last.last) c.note_tokens.new.table) c.file_end.ensures))
