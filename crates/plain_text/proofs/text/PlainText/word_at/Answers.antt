use Rattle.std.proofs.Common.{◌≡◌, ◌<◌, List, length, get_or, slice_get, rules, Some, sym, ◌∙◌, ap, subst, arith, ℕ}
use Rattle.std.specs.List.{slice_range}
use Rattle.std.proofs.lemmas.Option.{slice_get-get_or}
use Rattle.gcl_model.specs.Texts.{Text, Word}
use Rattle.plain_text.specs.declared.entry.Entry.{Entry}
use Rattle.plain_text.specs.Puts.{word}
use Rattle.plain_text.specs.Entries.{words_in, start_at, AreCuts}
use Rattle.plain_text.proofs.Entries.{length-words_in, word_in, cut_at}
use Rattle.plain_text.proofs.text.PlainText.word_at.Goals as goal

-- the place is that of an entry
at_entry : (bytes : List ℕ) (entries xs : List Entry) (words : List Word) (i : ℕ) → words_in bytes 0 entries ≡ words → xs ≡ entries → i < length words → i < length xs
at_entry bytes entries xs words i is same lt =
    let e : length words ≡ length xs = sym (ap length is) ∙ length-words_in bytes 0 entries ∙ ap length (sym same) in
    omega arith

pub start_of-start-requires : goal.start_of-start-requires
start_of-start-requires c =
    let t = c.self.inside in
    let lt : c.args.i < length c.as_slice-entries.result.now = at_entry t.bytes.items t.entries.items c.as_slice-entries.result.now c.args.self.now.words c.args.i (ap (λ (t : Text). t.words) c.self.view_is) c.as_slice-entries.ensures.value c.requires in
    omega arith

pub bounds-entries-i : goal.bounds-entries-i
bounds-entries-i c =
    let t = c.self.inside in
    at_entry t.bytes.items t.entries.items c.as_slice-entries.result.now c.args.self.now.words c.args.i (ap (λ (t : Text). t.words) c.self.view_is) c.as_slice-entries.ensures.value c.requires

pub offset_bounds-entries-i : goal.offset_bounds-entries-i
offset_bounds-entries-i c =
    let t = c.self.inside in
    let lt : c.args.i < length c.as_slice-entries.result.now = at_entry t.bytes.items t.entries.items c.as_slice-entries.result.now c.args.self.now.words c.args.i (ap (λ (t : Text). t.words) c.self.view_is) c.as_slice-entries.ensures.value c.requires in
    search rules

pub part-requires : goal.part-requires
part-requires c =
    let t = c.self.inside in
    let xs = c.as_slice-entries.result.now in
    let i = c.args.i in
    let lt : i < length xs = at_entry t.bytes.items t.entries.items xs c.args.self.now.words i (ap (λ (t : Text). t.words) c.self.view_is) c.as_slice-entries.ensures.value c.requires in
    let size : length c.as_slice.result.now ≡ length t.bytes.items = ap length c.as_slice.ensures.value in
    let cuts = subst (AreCuts (length t.bytes.items) 0) (sym c.as_slice-entries.ensures.value) c.self.invariant.cuts in
    let at = cut_at (length t.bytes.items) 0 xs cuts i _ (slice_get-get_or xs i record { address = 0; end = 0 } lt) in
    record {
      ordered = rw c.start_of-start.ensures at.0;
      within = rw size at.1;
    }

pub returns : goal.returns
returns c =
    let t = c.self.inside in
    let xs = c.as_slice-entries.result.now in
    let i = c.args.i in
    let lt : i < length xs = at_entry t.bytes.items t.entries.items xs c.args.self.now.words i (ap (λ (t : Text). t.words) c.self.view_is) c.as_slice-entries.ensures.value c.requires in
    let e = get_or xs i record { address = 0; end = 0 } in
    let token : c.part.result.now ≡ slice_range t.bytes.items (start_at 0 xs i) e.end =
    c.part.ensures ∙ ap (λ b. slice_range b c.start_of-start.result e.end) c.as_slice.ensures.value ∙ ap (λ s. slice_range t.bytes.items s e.end) c.start_of-start.ensures in
    ap (λ (t : Text). slice_get t.words i) (sym c.self.view_is)
    ∙ ap (λ es. slice_get (words_in t.bytes.items 0 es) i) (sym c.as_slice-entries.ensures.value)
    ∙ word_in t.bytes.items 0 xs i e (slice_get-get_or xs i record { address = 0; end = 0 } lt)
    ∙ ap (λ b. Some (word e.address b)) (sym token)
