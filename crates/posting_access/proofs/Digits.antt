-- How often a length can be halved.
use Rattle.std.proofs.Common.{◌≡◌, ℕ, zero, suc, ◌+◌, ◌-◌, ◌*◌, ◌/◌, ◌^◌, ◌<◌, ◌≤◌, Bool, true, ap, ◌∙◌, arith}
use Rattle.std.proofs.Math.Nat.{pow-suc, mul-le-mul_left, mul_assoc}
use Rattle.posting_access.specs.Search.{RisesByDigits}

-- after some turns, each of which halved what was left
pub record IsHalved (whole left before now : ℕ) : Type 0 where
  pub turns : ℕ
  pub counted : now ≡ before + turns
  pub few : 2 ^ turns ≤ 2 * whole + 1
  pub part : 2 ^ turns * left ≤ whole

pub halved_once : (whole left next before now later : ℕ) → IsHalved whole left before now → later ≡ now + 1 → 0 < left → 2 * next ≤ left → IsHalved whole next before later
halved_once whole left next before now later h is some half =
    let power = 2 ^ h.turns in
    let double : 2 ^ suc h.turns ≡ 2 ^ h.turns * 2 = pow-suc 2 h.turns in
    let one : power * 1 ≤ power * left = mul-le-mul_left power some in
    let two : power * (2 * next) ≤ power * left = mul-le-mul_left power half in
    let turned : power * 2 * next ≡ power * (2 * next) = mul_assoc power 2 next in
    let part = h.part in
    let counted = h.counted in
    let fits : power * 2 * next ≤ whole = omega (arith, two, turned, part) in
    record {
      turns = suc h.turns;
      counted = omega (arith, counted, is);
      few = omega (arith, double, one, part);
      part = rw double fits;
    }

-- a list has no more blocks than members
pub digits_of_blocks : (n blocks before now : ℕ) → blocks ≡ (n + 63) / 64 → RisesByDigits blocks before now → RisesByDigits n before now
digits_of_blocks n blocks before now is r = let few = r.few in record { digits = r.digits; few = omega (arith, few, is); most = r.most; rises = r.rises }

-- if there are two blocks, there is room for one more probe
pub digits_of_one_more : (n blocks before now later : ℕ) → blocks ≡ (n + 63) / 64 → 64 < n → RisesByDigits blocks before now → later ≡ now + 1 → RisesByDigits n before later
digits_of_one_more n blocks before now later is many r later_is =
    let few = r.few in
    let most = r.most in
    let rises = r.rises in
    let double : 2 ^ suc r.digits ≡ 2 ^ r.digits * 2 = pow-suc 2 r.digits in
    record { digits = suc r.digits; few = omega (arith, few, is, many, double); most = omega (arith, most, later_is); rises = omega (arith, rises, later_is) }

-- the two halves of what lies between
pub halved_behind : (whole low high before now later : ℕ) → IsHalved whole (high - low) before now → later ≡ now + 1 → low < high → IsHalved whole (high - (low + (high - low) / 2 + 1)) before later
halved_behind whole low high before now later h is lt = halved_once whole (high - low) (high - (low + (high - low) / 2 + 1)) before now later h is (omega (arith, lt)) (omega (arith, lt))

pub halved_front : (whole low high before now later : ℕ) → IsHalved whole (high - low) before now → later ≡ now + 1 → low < high → IsHalved whole (low + (high - low) / 2 - low) before later
halved_front whole low high before now later h is lt = halved_once whole (high - low) (low + (high - low) / 2 - low) before now later h is (omega (arith, lt)) (omega (arith, lt))

pub passed_before : (passes : ℕ → Bool) (middle : ℕ) → passes middle ≡ true → passes (middle + 1 - 1) ≡ true
passed_before passes middle e = let same : middle + 1 - 1 ≡ middle = omega arith in ap passes same ∙ e

-- a number is below the power of 2 by itself
power_above : (c : ℕ) → c + 1 ≤ 2 ^ c
power_above zero = omega arith
power_above (suc c) = let more = power_above c in let double : 2 ^ suc c ≡ 2 ^ c * 2 = pow-suc 2 c in omega (arith, more, double)

-- a number has no more digits than it has ones: of a list of n, a search probes 2 n + 1 members at most
pub few_digits : (n before after : ℕ) → RisesByDigits n before after → after ≤ before + (2 * n + 1)
few_digits n before after r =
    let few = r.few in
    let most = r.most in
    let above = power_above r.digits in
    omega (arith, few, most, above)
