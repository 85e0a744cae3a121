-- What one read of a piece did, by how many of its bytes came.
use Rattle.std.proofs.Common.{◌≡◌, ℕ, ◌+◌, ◌-◌, ◌≤◌, min, List, [], ◌++◌, length, take, refl, sym, ap, ◌∙◌, subst, arith, append-nil, Option, length-append}
use Rattle.std.proofs.lemmas.Grind.{common_steps}
use Rattle.std.specs.Io.KnownBytes.{Consumes}
use Rattle.std.proofs.lemmas.List.{take-append-le}
use Rattle.script_lang.specs.Lines.{lines}
use Rattle.script_lang.specs.Feeds.{Feed}
use Rattle.script_answers.specs.inner.Service.{Counts}
use Rattle.query_run.specs.inner.Streams.{FeedsPiece}
use Rattle.query_run.specs.Runs.{TakesAtMost}

pub least : (n a b : ℕ) → n ≡ min a b → n ≤ b
least n a b is = omega (arith, is)

-- The front of what was read.

front_len : (n : ℕ) (xs : List ℕ) → n ≤ length xs → length (take n xs) ≡ n
front_len n xs within = grind (arith, common_steps)

pub front_fits : (n : ℕ) (xs behind : List ℕ) → n ≤ length xs → n ≤ length (xs ++ behind)
front_fits n xs behind within = omega (arith, within, length-append xs behind)

pub front_within : (n : ℕ) (xs behind : List ℕ) → n ≤ length xs → n ≡ length (take n (xs ++ behind))
front_within n xs behind within = sym (front_len n (xs ++ behind) (front_fits n xs behind within))

-- What was taken of the source.

pub takes_front : (n most : ℕ) (xs : List ℕ) (left after : Option (List ℕ)) → n ≤ length xs → n ≤ most → Consumes left after (take n xs) → TakesAtMost most left after
takes_front n most xs left after within few from = record { taken = take n xs; from = from; few = omega (arith, few, front_len n xs within) }

-- at its end nothing
pub feeds_none : (n read : ℕ) (xs : List ℕ) (feed : Feed) (left after : Option (List ℕ)) → n ≡ 0 → Consumes left after (take n xs) → FeedsPiece (read - read) feed feed left after
feeds_none n read xs feed left after none from = record {
  piece = [];
  from = subst (λ (k : ℕ). Consumes left after (take k xs)) none from;
  count_is = omega arith;
  most_is = refl;
  lines_are = λ later. ap (λ (l : List ℕ). lines feed.most (l ++ later)) (sym (append-nil feed.held));
  held_few = omega arith;
}

-- What went into the feed.

pub feeds_front : (n read : ℕ) (xs behind : List ℕ) (old new : Feed) (left after : Option (List ℕ)) → n ≤ length xs → Consumes left after (take n xs) →
    ((later : List ℕ) → lines old.most (new.held ++ later) ≡ lines old.most (old.held ++ take n (xs ++ behind) ++ later)) → length new.held ≤ length old.held + length (take n (xs ++ behind)) → new.most ≡ old.most →
    FeedsPiece (read + n - read) old new left after
feeds_front n read xs behind old new left after within from pushed few same =
    let front : take n (xs ++ behind) ≡ take n xs = take-append-le n xs behind within in
    let len : length (take n xs) ≡ n = front_len n xs within in
    record {
      piece = take n xs;
      from = from;
      count_is = omega (arith, len);
      most_is = same;
      lines_are = λ later. pushed later ∙ ap (λ (l : List ℕ). lines old.most (old.held ++ l ++ later)) front;
      held_few = subst (λ (l : List ℕ). length new.held ≤ length old.held + length l) front few;
    }

-- The count of faults if nothing failed.

pub still : {P : Type 0} (before now : ℕ) → now ≡ before → (P → ⊥) → Counts before now P
still before now same none = record { later = omega (arith, same); rose = λ p. absurd (none p); same = λ calm. same }
