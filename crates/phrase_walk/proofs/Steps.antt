-- The steps of the walks, token by token.
use Rattle.std.proofs.Common.{◌≡◌, ℕ, ◌+◌, ◌-◌, ◌*◌, ◌<◌, ◌≤◌, ◌⊎◌, List, length, Option, Some, None, false, inl, inr, refl, sym, subst, ◌∙◌, arith, le_refl}
use Rattle.std.proofs.lemmas.Bool.{true≢false, cases_lt}
use Rattle.std.proofs.Math.Nat.{mul-le-mul_right}
use Rattle.gcl_model.specs.Extents.{Extent, extent}
use Rattle.gcl_model.specs.Access.{first_start, last_start}
use Rattle.gcl_model.specs.Texts.{Text, IsText, any_pair, next_place, previous_place, places}
use Rattle.gcl_model.specs.Forms.{phrase}
use Rattle.gcl_model.specs.Meaning.{concordance}
use Rattle.gcl_model.specs.Cost.{fewest_places}
use Rattle.gcl_model.proofs.Pairs.{pair_there}
use Rattle.phrase_walk.specs.Rounds.{rounds_cost, places_between, fewest_between, walk_end, passed_cost}
pub use Rattle.phrase_walk.specs.Starts.{LeadsTo, NoneBefore, NoneFrom}
use Rattle.phrase_walk.proofs.Places.{Held, held_within, next_tells, none_next, previous_tells, none_previous}
use Rattle.phrase_walk.proofs.Rows.{InRow, token_at, IsInPlace, row_place, places_row, fewest_of_each}
use Rattle.phrase_walk.proofs.Passed.{places_before, before_most, before_rises, before_more}
use Rattle.phrase_walk.proofs.Between.{between_wider, between_more, fewest_between_of_each, fewest_between_most}
use Rattle.phrase_walk.proofs.Members.{row_within, first_row, no_first_row, last_row, no_last_row}
use Rattle.phrase_walk.proofs.Ring.{ring_agrees, ring_rounds}
use Rattle.phrase_walk.proofs.Asked.{IsAskedWithin, asked_stays, asked_moves, asked_bound}

-- none before a start, and none at or after it and before another one, is none before the other one
pub none_before_on : (text : Text) (tokens : List (List ℕ)) (k s from : ℕ) → NoneBefore text tokens k s → NoneBefore text tokens s from → NoneBefore text tokens k from
none_before_on text tokens k s from before between r ge less row =
    elim (cases_lt r s) [
      | inl lt ↦ before r ge lt row
      | inr le ↦ between r le less row
    ]

-- if the first two tokens are nowhere side by side before an address, no row starts before one that is not after it
pub none_before_pair : (text : Text) (tokens : List (List ℕ)) (first second : List ℕ) (k s r : ℕ) → 1 < length tokens → first ≡ token_at tokens 0 → second ≡ token_at tokens 1 → s ≤ r →
    any_pair text.words first second k r ≡ false → NoneBefore text tokens k s
none_before_pair text tokens first second k s r two is is_behind upto none = λ p ge less row.
    let here : p + 0 ≡ p = omega arith in
    let held : Held text (token_at tokens 0) p = subst (Held text (token_at tokens 0)) here (row_place text tokens p 0 (omega (arith, two)) row) in
    true≢false (sym (pair_there text.words first second k r p ge (omega (arith, less, upto))
    (subst (λ t. Held text t p) (sym is) held)
    (subst (λ t. Held text t (p + 1)) (sym is_behind) (row_place text tokens p 1 two row))) ∙ none)

-- no row starts from after s up to k
abbrev pub NoneBehind : Text → List (List ℕ) → ℕ → ℕ → Type 0
NoneBehind text tokens k s = (r : ℕ) → s < r → r ≤ k → InRow text tokens r → ⊥

-- a walk is smaller the nearer it is to its end, and then the more tokens agree
pub closer : (rest left m agreed following : ℕ) → agreed < m → following ≤ m → 1 ≤ following → (left ≡ rest × agreed < following) ⊎ (left < rest) → left * (m + 1) + (m - following) < rest * (m + 1) + (m - agreed)
closer rest left m agreed following few within some (inl (same, more)) = rw same (omega (arith, few, within, more))
closer rest left m agreed following few within some (inr less) =
    let a : (left + 1) * (m + 1) ≤ rest * (m + 1) = mul-le-mul_right (m + 1) (omega (arith, less)) in
    omega (arith, a, few, within, some)

-- a token leads on, or as many agree as said
abbrev pub Leads : (next start agreed following : ℕ) → Type 0
Leads next start agreed following = ((next ≡ start) × (following ≡ agreed + 1)) ⊎ ((next ≡ start → ⊥) × (following ≡ 1))

pub closer_on : (end start turn place m agreed following : ℕ) → agreed < m → start + turn ≤ place → place < end → Leads (place - turn) start agreed following →
    (end - (place - turn)) * (m + 1) + (m - following) < (end - start) * (m + 1) + (m - agreed)
closer_on end start turn place m agreed following few from below (inl (e, n)) =
    closer (end - start) (end - (place - turn)) m agreed following few (omega (arith, n, few)) (omega (arith, n)) (inl (omega (arith, e), omega (arith, n)))
closer_on end start turn place m agreed following few from below (inr (e, n)) =
    closer (end - start) (end - (place - turn)) m agreed following few (omega (arith, n, few)) (omega (arith, n)) (inr (omega (arith, e, from, below)))

-- how many places of a token a walk from k has left behind: those from its place in the row at k up to before its place in the row at s
abbrev pub passed_upto : Text → List (List ℕ) → ℕ → ℕ → ℕ → ℕ
passed_upto text tokens k s i = places_between text.words (token_at tokens i) (k + i) (s + i)

-- the tokens in order, asked from k up to here for the row that starts at s
abbrev pub IsAskedForward : (text : Text) (tokens : List (List ℕ)) (k turn agreed s most old now : ℕ) → Type 0
IsAskedForward text tokens k turn agreed s most old now = IsAskedWithin (length tokens) turn agreed (passed_upto text tokens k s) (IsInPlace text tokens s) most old now

-- backward, the last token is asked first: this is the number of the one that is asked at this turn
abbrev pub from_last : List (List ℕ) → ℕ → ℕ
from_last tokens turn = length tokens - 1 - turn

-- how many places of that token lie after its place in the row that starts at s
abbrev pub passed_downto : Text → List (List ℕ) → ℕ → ℕ → ℕ
passed_downto text tokens s i =
    length (places text.words (token_at tokens (from_last tokens i))) - places_before text.words (token_at tokens (from_last tokens i)) (s + from_last tokens i + 1)

abbrev pub IsAskedBackward : (text : Text) (tokens : List (List ℕ)) (turn agreed s most old now : ℕ) → Type 0
IsAskedBackward text tokens turn agreed s most old now =
    IsAskedWithin (length tokens) turn agreed (passed_downto text tokens s) (λ i. IsInPlace text tokens s (from_last tokens i)) most old now

pub closer_back : (start place at m agreed following : ℕ) → agreed < m → at ≤ place → place ≤ start + at → Leads (place - at) start agreed following →
    (place - at) * (m + 1) + (m - following) < start * (m + 1) + (m - agreed)
closer_back start place at m agreed following few room upto (inl (e, n)) =
    closer start (place - at) m agreed following few (omega (arith, n, few)) (omega (arith, n)) (inl (e, omega (arith, n)))
closer_back start place at m agreed following few room upto (inr (e, n)) =
    closer start (place - at) m agreed following few (omega (arith, n, few)) (omega (arith, n)) (inr (omega (arith, e, room, upto)))

module _ (text : Text) (tokens : List (List ℕ)) (sound : IsText text) (some : 1 ≤ length tokens) where
  -- no row starts before the one in which the token is at its next place, looked up for a start before which no row starts
  pub leads_to_next : (s from i q : ℕ) → i < length tokens → s ≤ from → NoneBefore text tokens s from → Some q ≡ next_place text.words (token_at tokens i) (from + i) → LeadsTo text tokens i s q
  leads_to_next s from i q lt ahead before is =
      let n = next_tells text (token_at tokens i) sound (from + i) q (sym is) in
      let above : from + i ≤ q = n.from in
      record {
        held = n.held;
        from = omega (arith, above, ahead);
        within = n.within;
        none = λ r ge less row.
            elim (cases_lt r from) [
              | inl below ↦ before r ge below row
              | inr on ↦
                  let le : q ≤ r + i = n.least (r + i) (row_place text tokens r i lt row) (omega (arith, on)) in
                  omega (arith, le, less)
            ];
      }

  -- if it has none, no row starts
  pub none_from_next : (s from i : ℕ) → i < length tokens → NoneBefore text tokens s from → None ≡ next_place text.words (token_at tokens i) (from + i) → NoneFrom text tokens s
  none_from_next s from i lt before is = λ r ge row.
      elim (cases_lt r from) [
        | inl below ↦ before r ge below row
        | inr on ↦ none_next text (token_at tokens i) sound (from + i) (sym is) (r + i) (row_place text tokens r i lt row) (omega (arith, on))
      ]

  -- a token that is in its place leads to there
  pub leads_to_place : (s from i : ℕ) → i < length tokens → s ≤ from → NoneBefore text tokens s from → IsInPlace text tokens from i → LeadsTo text tokens i s (from + i)
  leads_to_place s from i lt ahead before held =
      let back : from ≡ from + i - i = omega arith in
      record {
        held = held;
        from = omega (arith, ahead);
        within = (held_within text.next text.first text.words (token_at tokens i) (from + i) sound.rising held).1;
        none = subst (NoneBefore text tokens s) back before;
      }

  pub no_more : (k s : ℕ) → NoneBefore text tokens k s → NoneFrom text tokens s → None ≡ first_start (concordance text (phrase tokens)) k
  no_more k s before none =
      sym (no_first_row text tokens k (λ r ge row.
      elim (cases_lt r s) [
        | inl below ↦ before r ge below row
        | inr from ↦ none r from row
      ]))

  pub forward_past : (k : ℕ) → text.next ≤ k → None ≡ first_start (concordance text (phrase tokens)) k
  forward_past k past =
      sym (no_first_row text tokens k (λ r ge row.
      let below : r + length tokens ≤ text.next = (row_within text sound tokens r some row).1 in
      omega (arith, below, ge, past, some)))

  -- the token is in its place of a row that does not start before the one that was reached
  module _ (k turn agreed s most old now after q : ℕ) (few : agreed < length tokens) (step : after ≤ now + most) (start : k ≤ s) (above : s + turn ≤ q) (held : Held text (token_at tokens turn) q) where
    held_next : (t : ℕ) → q - turn ≡ t → IsInPlace text tokens t turn
    held_next t e =
        let same : q ≡ t + turn = omega (arith, above, e) in
        subst (Held text (token_at tokens turn)) same held

    forward_stays : q - turn ≡ s → IsAskedForward text tokens k turn agreed s most old now → IsAskedForward text tokens k (turn + 1) (agreed + 1) s most old after
    forward_stays e asked = asked_stays (length tokens) turn agreed few (passed_upto text tokens k s) (IsInPlace text tokens s) most old now after step asked (held_next s e)

    forward_moves : (q - turn ≡ s → ⊥) → IsAskedForward text tokens k turn agreed s most old now → IsAskedForward text tokens k (turn + 1) 1 (q - turn) most old after
    forward_moves moved asked =
        asked_moves (length tokens) turn agreed few (passed_upto text tokens k s) (IsInPlace text tokens s) most old now after step asked
        (passed_upto text tokens k (q - turn)) (IsInPlace text tokens (q - turn))
        (λ i lt. between_wider text.words (token_at tokens i) (k + i) (s + i) (k + i) (q - turn + i) (le_refl (k + i)) (omega (arith, above)))
        (λ i lt held. between_more text.words (token_at tokens i) (s + i) (k + i) (s + i) (q - turn + i) held (omega (arith, start)) (omega arith) (omega (arith, above, moved)))
        (held_next (q - turn) refl)

  -- after a token was asked, whether it agreed or leads on
  pub forward_on : (k turn agreed following s most old now after q : ℕ) → agreed < length tokens → after ≤ now + most → k ≤ s → s + turn ≤ q → Held text (token_at tokens turn) q →
      Leads (q - turn) s agreed following →
      IsAskedForward text tokens k turn agreed s most old now → IsAskedForward text tokens k (turn + 1) following (q - turn) most old after
  forward_on k turn agreed following s most old now after q few step start above held (inl (e, n)) asked =
      subst (λ t. IsAskedForward text tokens k (turn + 1) following t most old after) (sym e)
      (subst (λ f. IsAskedForward text tokens k (turn + 1) f s most old after) (sym n) (forward_stays k turn agreed s most old now after q few step start above held e asked))
  forward_on k turn agreed following s most old now after q few step start above held (inr (moved, n)) asked =
      subst (λ f. IsAskedForward text tokens k (turn + 1) f (q - turn) most old after) (sym n) (forward_moves k turn agreed s most old now after q few step start above held moved asked)

  -- if each token agreed, this is the first row
  pub forward_found : (k s turn most old now : ℕ) → turn ≤ length tokens → k ≤ s → NoneBefore text tokens k s → IsAskedForward text tokens k turn (length tokens) s most old now →
      Some (extent s (s + (length tokens - 1))) ≡ first_start (concordance text (phrase tokens)) k
  forward_found k s turn most old now within from before asked =
      let row : InRow text tokens s = places_row text tokens s (ring_agrees (length tokens) asked.rounds turn (passed_upto text tokens k s) (IsInPlace text tokens s) within asked.ring) in
      sym (first_row text sound tokens k s (s + (length tokens - 1)) some from row (omega (arith, some))
      (λ r ge other. elim (cases_lt r s) [ inl lt ↦ absurd (before r ge lt other) | inr le ↦ le ]))

  -- a walk that goes on no further than to the end has made no more rounds than the rarest token has places that are left behind then
  forward_rounds : (k turn agreed s end most old now : ℕ) → k ≤ s → s < end → (asked : IsAskedForward text tokens k turn agreed s most old now) → asked.rounds ≤ fewest_between text.words tokens k end
  forward_rounds k turn agreed s end most old now from below asked =
      fewest_between_of_each text.words tokens k end asked.rounds some
      (ring_rounds (length tokens) asked.rounds turn agreed (passed_upto text tokens k s) (passed_upto text tokens k end) (IsInPlace text tokens s)
      (λ i lt. between_wider text.words (token_at tokens i) (k + i) (s + i) (k + i) (end + i) (le_refl (k + i)) (omega (arith, below)))
      (λ i lt held. between_more text.words (token_at tokens i) (s + i) (k + i) (s + i) (end + i) held (omega (arith, from)) (omega arith) (omega (arith, below)))
      asked.ring)

  forward_end : (k turn agreed s end most old now after : ℕ) → turn < length tokens → k ≤ s → s < end → after ≤ now + most → IsAskedForward text tokens k turn agreed s most old now →
      after ≤ old + (fewest_between text.words tokens k end + 1) * (length tokens * most)
  forward_end k turn agreed s end most old now after within from below step asked =
      let le = asked_bound (length tokens) turn (fewest_between text.words tokens k end) most old now after asked.rounds within
      (forward_rounds k turn agreed s end most old now from below asked) asked.cost step in
      omega (arith, le)

  -- no row was found: all starts are left behind
  pub forward_none : (k turn agreed s most old now after : ℕ) → turn < length tokens → k ≤ s → s < text.next → after ≤ now + most → IsAskedForward text tokens k turn agreed s most old now →
      after ≤ old + passed_cost text most tokens k None
  forward_none k turn agreed s most old now after = forward_end k turn agreed s text.next most old now after

  -- the row that starts here was found
  pub forward_some : (k turn agreed s e most old now : ℕ) → turn < length tokens → k ≤ s → IsAskedForward text tokens k turn agreed s most old now → now ≤ old + passed_cost text most tokens k (Some (extent s e))
  forward_some k turn agreed s e most old now within from = forward_end k turn agreed s (s + 1) most old now now within from (omega arith) (omega arith)

  -- what was left behind is no more than there is
  pub passed_rounds : (k most old now : ℕ) (found : Option Extent) → now ≤ old + passed_cost text most tokens k found → now ≤ old + rounds_cost text.words most tokens
  passed_rounds k most old now found le =
      let few : (fewest_between text.words tokens k (walk_end text found) + 1) * (length tokens * most) ≤ (fewest_places text.words tokens + 1) * (length tokens * most)
      = mul-le-mul_right (length tokens * most) (omega (arith, fewest_between_most text.words tokens k (walk_end text found))) in
      omega (arith, le, few)

  pub previous_within : (i s q : ℕ) → Some q ≡ previous_place text.words (token_at tokens i) (s + i) → q ≤ s + i
  previous_within i s q is = (previous_tells text (token_at tokens i) sound (s + i) q (sym is)).upto

  row_upto : (s i q r : ℕ) → i < length tokens → Some q ≡ previous_place text.words (token_at tokens i) (s + i) → r ≤ s → InRow text tokens r → r + i ≤ q
  row_upto s i q r lt is upto row =
      (previous_tells text (token_at tokens i) sound (s + i) q (sym is)).greatest (r + i) (row_place text tokens r i lt row) (omega (arith, upto))

  -- no row starts after the one in which the token is at its previous place
  pub none_behind_previous : (k s i q : ℕ) → i < length tokens → Some q ≡ previous_place text.words (token_at tokens i) (s + i) → NoneBehind text tokens k s → NoneBehind text tokens k (q - i)
  none_behind_previous k s i q lt is behind r more le row =
      elim (cases_lt s r) [
        | inl above ↦ behind r above le row
        | inr upto ↦ let ge : r + i ≤ q = row_upto s i q r lt is upto row in omega (arith, ge, more)
      ]

  pub no_previous : (k s i : ℕ) → i < length tokens → None ≡ previous_place text.words (token_at tokens i) (s + i) → NoneBehind text tokens k s → None ≡ last_start (concordance text (phrase tokens)) k
  no_previous k s i lt is behind =
      sym (no_last_row text tokens k (λ r le row.
      elim (cases_lt s r) [
        | inl above ↦ behind r above le row
        | inr upto ↦ none_previous text (token_at tokens i) sound (s + i) (sym is) (r + i) (row_place text tokens r i lt row) (omega (arith, upto))
      ]))

  -- no row starts before the first address
  pub no_room : (k s i q : ℕ) → i < length tokens → Some q ≡ previous_place text.words (token_at tokens i) (s + i) → (i ≤ q → ⊥) → NoneBehind text tokens k s → None ≡ last_start (concordance text (phrase tokens)) k
  no_room k s i q lt is low behind =
      sym (no_last_row text tokens k (λ r le row.
      elim (cases_lt s r) [
        | inl above ↦ behind r above le row
        | inr upto ↦ let ge : r + i ≤ q = row_upto s i q r lt is upto row in low (omega (arith, ge))
      ]))

  pub backward_short : (k : ℕ) → text.next < length tokens → None ≡ last_start (concordance text (phrase tokens)) k
  backward_short k short =
      sym (no_last_row text tokens k (λ r le row.
      let below : r + length tokens ≤ text.next = (row_within text sound tokens r some row).1 in
      absurd (omega arith)))

  pub backward_init : (k s : ℕ) → (s < k → text.next ≤ s + length tokens) → NoneBehind text tokens k s
  backward_init k s full = λ r lt le row.
      let below : r + length tokens ≤ text.next = (row_within text sound tokens r some row).1 in
      let room : text.next ≤ s + length tokens = full (omega arith) in
      absurd (omega arith)

  module _ (turn agreed s most old now after q : ℕ) (few : agreed < length tokens) (step : after ≤ now + most) (is : Some q ≡ previous_place text.words (token_at tokens (from_last tokens turn)) (s + from_last tokens turn)) (room : from_last tokens turn ≤ q) where
    held_previous : (t : ℕ) → q - from_last tokens turn ≡ t → IsInPlace text tokens t (from_last tokens turn)
    held_previous t e =
        let same : q ≡ t + from_last tokens turn = omega (arith, room, e) in
        subst (Held text (token_at tokens (from_last tokens turn))) same (previous_tells text (token_at tokens (from_last tokens turn)) sound (s + from_last tokens turn) q (sym is)).held

    backward_stays : q - from_last tokens turn ≡ s → IsAskedBackward text tokens turn agreed s most old now → IsAskedBackward text tokens (turn + 1) (agreed + 1) s most old after
    backward_stays e asked =
        asked_stays (length tokens) turn agreed few (passed_downto text tokens s) (λ i. IsInPlace text tokens s (from_last tokens i)) most old now after step asked (held_previous s e)

    backward_moves : (q - from_last tokens turn ≡ s → ⊥) → IsAskedBackward text tokens turn agreed s most old now → IsAskedBackward text tokens (turn + 1) 1 (q - from_last tokens turn) most old after
    backward_moves moved asked =
        let upto : q ≤ s + from_last tokens turn = previous_within (from_last tokens turn) s q is in
        let t = q - from_last tokens turn in
        let lower : t < s = omega (arith, upto, room, moved) in
        asked_moves (length tokens) turn agreed few (passed_downto text tokens s) (λ i. IsInPlace text tokens s (from_last tokens i)) most old now after step asked
        (passed_downto text tokens t) (λ i. IsInPlace text tokens t (from_last tokens i))
        (λ i lt. left_rises (from_last tokens i) t s lower)
        (λ i lt held. left_more (from_last tokens i) t s lower held)
        (held_previous t refl)
      where
        left_rises : (j t s : ℕ) → t < s →
            length (places text.words (token_at tokens j)) - places_before text.words (token_at tokens j) (s + j + 1) ≤ length (places text.words (token_at tokens j)) - places_before text.words (token_at tokens j) (t + j + 1)
        left_rises j t s lower =
            let less : places_before text.words (token_at tokens j) (t + j + 1) ≤ places_before text.words (token_at tokens j) (s + j + 1) = before_rises text.words (token_at tokens j) (t + j + 1) (s + j + 1) (omega (arith, lower)) in
            omega (arith, less)

        left_more : (j t s : ℕ) → t < s → IsInPlace text tokens s j →
            length (places text.words (token_at tokens j)) - places_before text.words (token_at tokens j) (s + j + 1) + 1 ≤ length (places text.words (token_at tokens j)) - places_before text.words (token_at tokens j) (t + j + 1)
        left_more j t s lower held =
            let less : places_before text.words (token_at tokens j) (t + j + 1) + 1 ≤ places_before text.words (token_at tokens j) (s + j + 1) = before_more text.words (token_at tokens j) (s + j) (t + j + 1) (s + j + 1) held (omega (arith, lower)) (omega arith) in
            let within : places_before text.words (token_at tokens j) (s + j + 1) ≤ length (places text.words (token_at tokens j)) = before_most text.words (token_at tokens j) (s + j + 1) in
            omega (arith, less, within)

  pub backward_on : (turn agreed following s most old now after q : ℕ) → agreed < length tokens → after ≤ now + most → Some q ≡ previous_place text.words (token_at tokens (from_last tokens turn)) (s + from_last tokens turn) →
      from_last tokens turn ≤ q → Leads (q - from_last tokens turn) s agreed following →
      IsAskedBackward text tokens turn agreed s most old now → IsAskedBackward text tokens (turn + 1) following (q - from_last tokens turn) most old after
  backward_on turn agreed following s most old now after q few step is room (inl (e, n)) asked =
      subst (λ t. IsAskedBackward text tokens (turn + 1) following t most old after) (sym e)
      (subst (λ f. IsAskedBackward text tokens (turn + 1) f s most old after) (sym n) (backward_stays turn agreed s most old now after q few step is room e asked))
  backward_on turn agreed following s most old now after q few step is room (inr (moved, n)) asked =
      subst (λ f. IsAskedBackward text tokens (turn + 1) f (q - from_last tokens turn) most old after) (sym n) (backward_moves turn agreed s most old now after q few step is room moved asked)

  -- if each token agreed, this is the last row
  pub backward_found : (k s turn most old now : ℕ) → turn ≤ length tokens → s ≤ k → NoneBehind text tokens k s → IsAskedBackward text tokens turn (length tokens) s most old now →
      Some (extent s (s + (length tokens - 1))) ≡ last_start (concordance text (phrase tokens)) k
  backward_found k s turn most old now within upto behind asked =
      sym (last_row text sound tokens k s (s + (length tokens - 1)) some upto (places_row text tokens s in_place) (omega (arith, some))
      (λ r le other. elim (cases_lt s r) [ inl lt ↦ absurd (behind r lt le other) | inr ge ↦ ge ]))
    where
      in_place : (j : ℕ) → j < length tokens → IsInPlace text tokens s j
      in_place j lt =
          let same : from_last tokens (from_last tokens j) ≡ j = omega (arith, lt) in
          subst (IsInPlace text tokens s) same
          (ring_agrees (length tokens) asked.rounds turn (passed_downto text tokens s) (λ i. IsInPlace text tokens s (from_last tokens i)) within asked.ring (from_last tokens j) (omega (arith, lt)))

  backward_rounds : (turn agreed s most old now : ℕ) → (asked : IsAskedBackward text tokens turn agreed s most old now) → asked.rounds ≤ fewest_places text.words tokens
  backward_rounds turn agreed s most old now asked =
      fewest_of_each text.words tokens asked.rounds some (λ j lt.
      let same : from_last tokens (from_last tokens j) ≡ j = omega (arith, lt) in
      subst (λ n. asked.rounds ≤ length (places text.words (token_at tokens n))) same
      (ring_rounds (length tokens) asked.rounds turn agreed (passed_downto text tokens s) (λ i. length (places text.words (token_at tokens (from_last tokens i)))) (λ i. IsInPlace text tokens s (from_last tokens i))
      (λ i less. omega arith)
      (λ i less held. left_some (from_last tokens i) held)
      asked.ring (from_last tokens j) (omega (arith, lt))))
    where
      left_some : (j : ℕ) → IsInPlace text tokens s j →
          length (places text.words (token_at tokens j)) - places_before text.words (token_at tokens j) (s + j + 1) + 1 ≤ length (places text.words (token_at tokens j))
      left_some j held =
          let more : places_before text.words (token_at tokens j) 0 + 1 ≤ places_before text.words (token_at tokens j) (s + j + 1) = before_more text.words (token_at tokens j) (s + j) 0 (s + j + 1) held (omega arith) (omega arith) in
          let within : places_before text.words (token_at tokens j) (s + j + 1) ≤ length (places text.words (token_at tokens j)) = before_most text.words (token_at tokens j) (s + j + 1) in
          omega (arith, more, within)

  pub backward_cost : (turn agreed s most old now after : ℕ) → turn < length tokens → after ≤ now + most → IsAskedBackward text tokens turn agreed s most old now → after ≤ old + rounds_cost text.words most tokens
  backward_cost turn agreed s most old now after within step asked =
      asked_bound (length tokens) turn (fewest_places text.words tokens) most old now after asked.rounds within
      (backward_rounds turn agreed s most old now asked) asked.cost step
