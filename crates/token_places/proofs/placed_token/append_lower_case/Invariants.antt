use Rattle.std.proofs.Common.{◌≡◌, ◌++◌, map, take}
use Rattle.std.specs.Char.{to_ascii_lowercase}
use Rattle.token_places.proofs.placed_token.append_lower_case.Given as goal

-- the bytes so far are in lower case
abbrev pub invariant-loop-b : goal.invariant-loop-b
invariant-loop-b l = l.bytes.items ≡ l.fn.bytes.items ++ map to_ascii_lowercase (take l.b-index l.name)
