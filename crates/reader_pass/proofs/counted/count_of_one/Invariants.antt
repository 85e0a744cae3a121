use Rattle.std.proofs.Common.{◌≡◌, ℕ, List, length, map, take}
use Rattle.gcl_model.specs.Forms.{term}
use Rattle.gcl_model.specs.FormOf.{form_of}
use Rattle.live_version.specs.Contents.{version_text}
use Rattle.reader_pass.proofs.TermCounts.{stands_in}
use Rattle.reader_pass.proofs.counted.count_of_one.Given as goal

-- the operands so far are terms, and their members are counted
abbrev pub invariant-loop-i : goal.invariant-loop-i
invariant-loop-i l = record {
  tokens : List (List ℕ);
  terms : map form_of (take l.i l.operands) ≡ map term tokens;
  counted : l.count ≡ length (stands_in (version_text l.version) tokens);
}
