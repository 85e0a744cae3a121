use Rattle.std.proofs.Common.{◌≡◌, map, take, string_bytes}
use Rattle.gclshare.proofs.words.copied.Given as goal

-- those so far are copied
abbrev pub invariant-loop-word : goal.invariant-loop-word
invariant-loop-word l = l.copies.items ≡ map string_bytes (take l.word-index l.words)
