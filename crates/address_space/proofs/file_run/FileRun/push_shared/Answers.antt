use Rattle.std.proofs.Common.{List, subst, sym, IfSome}
use Rattle.address_space.specs.Runs.{FileEntry, IsPlaced, Precedes, last_file}
use Rattle.address_space.proofs.RunLemmas.{IsFileRun-push}
use Rattle.address_space.proofs.file_run.FileRun.push_shared.Goals as goal

-- the run of before, with a file after its last
pub invariant_of-self-2 : goal.invariant_of-self-2
invariant_of-self-2 c =
    let IsLastBefore : List FileEntry → Type 0 = λ files. IfSome (last_file files) (λ last. Precedes last c.args.file) in
    let placed : IsPlaced c.args.file = c.record.ensures.placed in
    rw c.in_ok-push.ensures.items
    (IsFileRun-push c.self.inside.files.items c.args.file c.self.invariant placed (subst IsLastBefore (sym c.self.view_is) c.requires))
