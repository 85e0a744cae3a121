use Rattle.std.proofs.Common.{◌≡◌, ◌≤◌, vec_len, vec_capacity}
use Rattle.std.specs.List.{AllByRecursion}
use Rattle.manifest_publish.specs.Accounts.{with_pass}
use Rattle.manifest_publish.proofs.press.Press.readers.Given as goal

-- the readers made so far have entered the opening version
abbrev pub invariant-loop : goal.invariant-loop
invariant-loop l =
    (l.self ≡ l.fn.self)
    × AllByRecursion (λ reader. reader ≡ with_pass l.mark.publisher l.mark.history) l.made.items
    × (vec_len l.made ≤ l.counter)
    × (vec_capacity l.made ≡ l.readers)
