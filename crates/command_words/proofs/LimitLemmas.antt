-- The numbers of options lie within the limits.
use Rattle.std.proofs.Common.{◌≡◌, ◌&&◌, ◌≤◌, ℕ, Bool, true, false, List, Option, Some, None, IfSome, option_map, option_and_then, unwrap_or, cond, refl, codes, nat_le, leb-true}
use Rattle.gcl_model.specs.Limits.{address_end, most_made, most_readers}
use Rattle.script_lang.specs.Numbers.{number_of}
use Rattle.command_words.specs.declared.options.Made.{Made}
use Rattle.command_words.specs.declared.options.Options.{Options}
use Rattle.command_words.specs.Grammar.{Given, IsWithinLimits, are_options, made_from, number_within, options_from, options_in, options_of, pairs_of, value_of}

-- from the least to the most
Within : ℕ → ℕ → ℕ → Type 0
Within least most n = (least ≤ n) × (n ≤ most)

-- a number is within the bounds that it is asked for
number_limits : (least most : ℕ) (text : List ℕ) → IfSome (number_within least most text) (Within least most)
unfolding Within
number_limits least most text = go (number_of text)
  where
    test : (n : ℕ) (a b : Bool) → nat_le least n ≡ a → nat_le n most ≡ b → IfSome (cond (a && b) (Some n) None) (λ m. (least ≤ m) × (m ≤ most))
    test n true true low high = (leb-true least n low, leb-true n most high)
    test n true false low high = tt
    test n false b low high = tt

    go : (o : Option ℕ) → IfSome (option_and_then (λ n. cond (nat_le least n && nat_le n most) (Some n) None) o) (λ m. (least ≤ m) × (m ≤ most))
    go None = tt
    go (Some n) = test n (nat_le least n) (nat_le n most) refl refl

-- so is the count of a corpus
made_limits : (start count : Option (List ℕ)) → IfSome (made_from start count) (λ made. IfSome made (λ m. m.count ≤ most_made))
unfolding Within
made_limits None None = tt
made_limits None (Some count) = tt
made_limits (Some start) None = tt
made_limits (Some start) (Some count) = go (number_of start) (number_within 0 most_made count) (number_limits 0 most_made count)
  where
    corpus : Option ℕ → Option ℕ → Option Made
    corpus s c = option_and_then (λ x. option_map (λ y. record { start = x; count = y }) c) s

    go : (s c : Option ℕ) → IfSome c (λ m. (0 ≤ m) × (m ≤ most_made)) → IfSome (option_map (λ made. Some made) (corpus s c)) (λ made. IfSome made (λ m. m.count ≤ most_made))
    go None c within = tt
    go (Some s) None within = tt
    go (Some s) (Some c) within = within.1

-- and so are all numbers of options
options_limits : (first readers start count : Option (List ℕ)) → IfSome (options_from first readers start count) IsWithinLimits
unfolding Within
options_limits first readers start count =
    go (number_within 0 address_end (unwrap_or first (codes "0"))) (number_within 1 most_readers (unwrap_or readers (codes "4"))) (made_from start count)
    (number_limits 0 address_end (unwrap_or first (codes "0"))) (number_limits 1 most_readers (unwrap_or readers (codes "4"))) (made_limits start count)
  where
    made_up : Option ℕ → Option ℕ → Option (Option Made) → Option Options
    made_up f r m = option_and_then (λ x. option_and_then (λ y. option_map (λ z. record { first = x; readers = y; made = z }) m) r) f

    go : (f r : Option ℕ) (m : Option (Option Made)) → IfSome f (λ n. (0 ≤ n) × (n ≤ address_end)) → IfSome r (λ n. (1 ≤ n) × (n ≤ most_readers))
        → IfSome m (λ made. IfSome made (λ x. x.count ≤ most_made)) → IfSome (made_up f r m) IsWithinLimits
    go None r m f_in r_in m_in = tt
    go (Some f) None m f_in r_in m_in = tt
    go (Some f) (Some r) None f_in r_in m_in = tt
    go (Some f) (Some r) (Some m) f_in r_in m_in = record { first_most = f_in.1; readers_least = r_in.0; readers_most = r_in.1; count_most = m_in }

-- options that words write are within the limits
pub within_limits : (words : List (List ℕ)) → IfSome (options_of words) IsWithinLimits
within_limits words = go (pairs_of words)
  where
    test : (pairs : List Given) (b : Bool) → are_options pairs ≡ b → IfSome (options_in pairs) IsWithinLimits
    test pairs true all = rw all (options_limits (value_of (codes "--first") pairs) (value_of (codes "--readers") pairs) (value_of (codes "--made") pairs) (value_of (codes "--count") pairs))
    test pairs false all = rw all tt

    go : (o : Option (List Given)) → IfSome (option_and_then options_in o) IsWithinLimits
    go None = tt
    go (Some pairs) = test pairs (are_options pairs) refl
