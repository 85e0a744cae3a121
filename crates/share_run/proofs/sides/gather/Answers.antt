use Rattle.std.proofs.Common.{◌≡◌, ◌+◌, ◌++◌, ◌&&◌, Option, None, length, vec_len, append-nil, ap, ◌∙◌, sym, subst, arith, rules}
use Rattle.std.specs.Prelude.{option_to_list}
use Rattle.shared_edit.specs.Editors.{EditorContent}
use Rattle.share_run.specs.Sides.{are_done, editors_from}
use Rattle.share_run.proofs.SideLemmas.{one_back, one_done, one_room}
use Rattle.share_run.proofs.sides.gather.Goals as goal

pub put-requires : goal.put-requires
put-requires g c =
    let i = c.loop-side.invariant in
    let room = one_room c.loop-side.editors.items c.loop-side.sides.items c.pop.new.self.items c.in-Some.side c.in-Some-into_editor.editor _ c.in-Some.ensures.items i.all (sym c.in-Some-into_editor.ensures) in
    let n : length c.loop-side.editors.items ≡ vec_len c.loop-side.editors = search rules in
    omega (arith, room, n, i.room)

pub loop-side-preserved-in-Some-into_editor : goal.loop-side-preserved-in-Some-into_editor
loop-side-preserved-in-Some-into_editor g c =
    let i = c.loop-side.invariant in
    let back = c.loop-side.editors.items in
    let rest = c.pop.new.self.items in
    let all = editors_from c.args.sides.items in
    record {
      all = ap (λ l. l ++ editors_from rest) c.put.ensures.items
          ∙ subst (λ (o : Option EditorContent). (back ++ option_to_list o) ++ editors_from rest ≡ all) (sym c.in-Some-into_editor.ensures) (one_back back c.loop-side.sides.items rest c.in-Some.side all c.in-Some.ensures.items i.all);
      done = ap (λ b. (c.loop-side.all_done && b) && are_done rest) c.is_done-all_done.ensures ∙ one_done c.loop-side.all_done c.loop-side.sides.items rest c.in-Some.side _ c.in-Some.ensures.items i.done;
      room = omega (arith, c.put.ensures.capacity, i.room);
    }

pub loop-side-preserved : goal.loop-side-preserved
loop-side-preserved g c =
    let i = c.loop-side.invariant in
    let back = c.loop-side.editors.items in
    let rest = c.pop.new.self.items in
    let all = editors_from c.args.sides.items in
    let none : c.in-Some.side.editor ≡ None = search rules in
    record {
      all = ap (λ l. l ++ editors_from rest) (sym (append-nil back)) ∙ subst (λ (o : Option EditorContent). (back ++ option_to_list o) ++ editors_from rest ≡ all) none (one_back back c.loop-side.sides.items rest c.in-Some.side all c.in-Some.ensures.items i.all);
      done = ap (λ b. (c.loop-side.all_done && b) && are_done rest) c.is_done-all_done.ensures ∙ one_done c.loop-side.all_done c.loop-side.sides.items rest c.in-Some.side _ c.in-Some.ensures.items i.done;
      room = i.room;
    }
