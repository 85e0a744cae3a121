-- The addresses that were read of a term, and those that any image of the bytes still has.
use Rattle.std.proofs.Common.{◌≡◌, ℕ, zero, suc, ◌+◌, ◌-◌, ◌^◌, ◌<◌, ◌≤◌, Bool, true, false, ◌||◌, eqb, List, [], ◌∷◌, ◌++◌, length, Some, inl, inr, refl, sym, ap, ◌∙◌, subst, arith, length-append, le_refl}
use Rattle.std.specs.List.{AllByRecursion}
use Rattle.std.proofs.lemmas.Bool.{true≢false, cases_Bool, or_left, or_right, eqb-true, eq-eqb, ne_eqb, or_parts}
use Rattle.std.proofs.lemmas.List.{append_assoc, append-nil}
use Rattle.std.proofs.lemmas.List.Folds.{list_any-append}
use Rattle.posting_code.specs.Numbers.{spelling}
use Rattle.posting_code.specs.Packed.{last_of, packed_from}
use Rattle.posting_code.specs.Postings.{ArePostings, RiseWithin}
use Rattle.posting_code.proofs.Numbers.{prefix_free}
use Rattle.posting_code.proofs.Packed.{packed_from-push}
use Rattle.posting_code.proofs.Rising.{last_of-push, rise_length, rise_push, rise_wider}
use Rattle.index_shard.specs.Tables.{has_address}
use Rattle.index_shard.proofs.TableLaws.{all_push}
use Rattle.address_space.specs.Runs.{FileEntry}
use Rattle.live_version.specs.Contents.{is_of_file, is_of_files}
use Rattle.image_file.specs.declared.format.Format.{Format}
use Rattle.image_file.specs.declared.format.Format.TheVariants.{One, Two}
use Rattle.image_file.proofs.Decoding.{eight_same}
use Rattle.image_read.specs.declared.places.Role.{Role}
use Rattle.image_read.specs.Reading.{FillRole, HasNoAddresses, HasNoCount, HasNoNextAddress, HasNoPacked, IsAddressesFront, IsNextAddress, IsCountFront, IsPacked, SeenContent, Sees, SeesAll, count_bytes, count_end, is_seen, role_in}

pub lacks_later : (low bound : ℕ) (ps : List ℕ) (p : ℕ) → RiseWithin low bound ps → bound ≤ p → has_address ps p ≡ false
lacks_later low bound [] p rise le = refl
lacks_later low bound (q ∷ qs) p rise le =
    let lt : q < bound = rise.1 in
    rw (ne_eqb q p (λ same. omega arith)) (lacks_later (q + 1) bound qs p rise.2 le)

-- an address of a role is in a file
pub role_of_files : (files : List FileEntry) (p : ℕ) (role : Role) → role_in files p ≡ Some role → is_of_files files p ≡ true
role_of_files [] p role is = absurd cc
role_of_files (file ∷ files) p role is = elim (cases_Bool (is_of_file p file)) [
  | inl h ↦ or_left (is_of_file p file) (is_of_files files p) h
  | inr h ↦ or_right (is_of_file p file) (is_of_files files p) (role_of_files files p role (rw h at is))
]

-- all addresses that an image of the bytes has here
pub record AreAllAddresses (first next number : ℕ) (start : SeenContent) (role : Role) (whole all end : List ℕ) : Type 0 where
  pub long : length all ≡ number
  pub fills : FillRole first next start.files role all
  pub unseen : AllByRecursion (λ p. is_seen start p ≡ false) all
  pub bytes : whole ≡ packed_from first all ++ end

-- those that are left
pub record AreLeft (bound next : ℕ) (start : SeenContent) (role : Role) (before : ℕ) (addresses rest all end left : List ℕ) : Type 0 where
  pub whole : all ≡ addresses ++ left
  pub bytes : rest ≡ packed_from before left ++ end
  pub rising : RiseWithin bound next left
  pub roles : AllByRecursion (λ p. role_in start.files p ≡ Some role) left
  pub unseen : AllByRecursion (λ p. is_seen start p ≡ false) left

-- i addresses were read, and the next one is at least the bound
pub record AreRead (first next number : ℕ) (start : SeenContent) (role : Role) (whole : List ℕ) (i before : ℕ) (now : SeenContent) (addresses rest : List ℕ) (bound : ℕ) : Type 0 where
  pub counted : length addresses ≡ i
  pub low : first ≤ bound
  pub high : bound ≤ next
  pub none : i ≡ 0 → before ≡ bound
  pub some : 0 < i → before + 1 ≡ bound
  pub rising : RiseWithin first bound addresses
  pub last : last_of (first ∷ addresses) ≡ before
  pub bytes : whole ≡ packed_from first addresses ++ rest
  pub roles : AllByRecursion (λ p. role_in start.files p ≡ Some role) addresses
  pub unseen : AllByRecursion (λ p. is_seen start p ≡ false) addresses
  pub sees : SeesAll start now addresses
  pub track : (all end : List ℕ) → AreAllAddresses first next number start role whole all end → (left : List ℕ) × AreLeft bound next start role before addresses rest all end left

pub addresses_begin : (first next number : ℕ) (start : SeenContent) (role : Role) (whole : List ℕ) → first ≤ next → AreRead first next number start role whole 0 first start [] whole first
addresses_begin first next number start role whole le = record {
  counted = refl;
  low = le_refl first;
  high = le;
  none = λ e. refl;
  some = λ lt. absurd (omega arith);
  rising = tt;
  last = refl;
  bytes = refl;
  roles = tt;
  unseen = tt;
  sees = record { files = refl; seen = λ q of. refl };
  track = λ all end is. (all, record { whole = refl; bytes = is.bytes; rising = is.fills.rising; roles = is.fills.roles; unseen = is.unseen });
}

-- the bound is the last address, or one more
bound_from : (first next number : ℕ) (start : SeenContent) (role : Role) (whole : List ℕ) (i before : ℕ) (now : SeenContent) (addresses rest : List ℕ) (bound : ℕ) →
    AreRead first next number start role whole i before now addresses rest bound → before ≤ bound
bound_from first next number start role whole zero before now addresses rest bound read = let e = read.none refl in omega (arith, e)
bound_from first next number start role whole (suc i) before now addresses rest bound read = let e = read.some (omega arith) in omega (arith, e)

-- the address that an image of the bytes has next
pub record HasNextAddress (bound next : ℕ) (start : SeenContent) (role : Role) (before : ℕ) (addresses rest all end : List ℕ) (p : ℕ) (more : List ℕ) : Type 0 where
  pub whole : all ≡ addresses ++ (p ∷ more)
  pub from : bound ≤ p
  pub below : p < next
  pub role_is : role_in start.files p ≡ Some role
  pub fresh : is_seen start p ≡ false
  pub bytes : rest ≡ spelling (p - before) ++ (packed_from p more ++ end)
  pub rising : RiseWithin (p + 1) next more
  pub roles : AllByRecursion (λ q. role_in start.files q ≡ Some role) more
  pub unseen : AllByRecursion (λ q. is_seen start q ≡ false) more

pub has_next_address : (first next number : ℕ) (start : SeenContent) (role : Role) (whole : List ℕ) (i before : ℕ) (now : SeenContent) (addresses rest : List ℕ) (bound : ℕ) → i < number →
    AreRead first next number start role whole i before now addresses rest bound → (all end : List ℕ) → AreAllAddresses first next number start role whole all end →
    (p : ℕ) × (more : List ℕ) × HasNextAddress bound next start role before addresses rest all end p more
has_next_address first next number start role whole i before now addresses rest bound lt read all end is =
    let track = read.track all end is in
    by_left track.0 track.1
  where
    by_left : (left : List ℕ) → AreLeft bound next start role before addresses rest all end left → (p : ℕ) × (more : List ℕ) × HasNextAddress bound next start role before addresses rest all end p more
    by_left [] left =
        let long = is.long in
        let same : length all ≡ length addresses = ap length (left.whole ∙ append-nil addresses) in
        let counted = read.counted in
        absurd (omega (arith, long, same, counted, lt))
    by_left (p ∷ more) left = (
      p,
      more,
      record {
        whole = left.whole;
        from = left.rising.0;
        below = left.rising.1;
        role_is = left.roles.0;
        fresh = left.unseen.0;
        bytes = left.bytes ∙ append_assoc (spelling (p - before)) (packed_from p more) end;
        rising = left.rising.2;
        roles = left.roles.1;
        unseen = left.unseen.1;
      },
    )

-- the difference that is there is that of the address
pub same_next : (before bound next gap : ℕ) (whole behind : List ℕ) (p : ℕ) (rest : List ℕ) → next ≤ 2 ^ 56 → before ≤ bound → IsPacked whole gap behind → bound ≤ p → p < next → whole ≡ spelling (p - before) ++ rest →
    (before + gap ≡ p) × (behind ≡ rest)
same_next before bound next gap whole behind p rest end_le le packed from below is =
    let cut = prefix_free gap (p - before) behind rest packed.small (omega (arith, below, end_le)) (sym packed.bytes ∙ is) in
    let same = cut.0 in
    (omega (arith, same, from, le), cut.1)

-- no number that is there is one of an address
pub next_unpacked : (before bound next : ℕ) (start : SeenContent) (role : Role) (whole : List ℕ) → next ≤ 2 ^ 56 → HasNoPacked whole → HasNoNextAddress bound next start role before whole
next_unpacked before bound next start role whole end_le none p rest from below place fresh is = none (p - before) rest (omega (arith, below, end_le)) is

-- nor is one whose address is refused
pub next_refused : (before bound next gap : ℕ) (start : SeenContent) (role : Role) (whole behind : List ℕ) → next ≤ 2 ^ 56 → before ≤ bound → IsPacked whole gap behind →
    (bound ≤ before + gap → before + gap < next → role_in start.files (before + gap) ≡ Some role → is_seen start (before + gap) ≡ false → ⊥) → HasNoNextAddress bound next start role before whole
next_refused before bound next gap start role whole behind end_le le packed none p rest from below place fresh is =
    let same = sym (same_next before bound next gap whole behind p rest end_le le packed from below is).0 in
    none (subst (λ q. bound ≤ q) same from) (subst (λ q. q < next) same below) (subst (λ q. role_in start.files q ≡ Some role) same place) (subst (λ q. is_seen start q ≡ false) same fresh)

pub next_met : (before bound next gap : ℕ) (start after : SeenContent) (role : Role) (whole behind : List ℕ) → IsPacked whole gap behind → bound ≤ before + gap → before + gap < next → role_in start.files (before + gap) ≡ Some role →
    is_seen start (before + gap) ≡ false → Sees start after (before + gap) → IsNextAddress bound next start after role before whole (before + gap) behind
next_met before bound next gap start after role whole behind packed from below place fresh sees =
    let apart : gap ≡ before + gap - before = omega arith in
    record { from = from; below = below; place = place; fresh = fresh; sees = sees; bytes = packed.bytes ∙ ap (λ n. spelling n ++ behind) apart }

or_turned : (a b c : Bool) → (a || (b || c)) ≡ ((b || (a || false)) || c)
or_turned true true c = refl
or_turned true false c = refl
or_turned false true c = refl
or_turned false false c = refl

eqb-turned : (p q : ℕ) → eqb p q ≡ eqb q p
eqb-turned p q = elim (cases_Bool (eqb p q)) [
  | inl h ↦ h ∙ sym (eq-eqb q p (sym (eqb-true p q h)))
  | inr h ↦ h ∙ sym (ne_eqb q p (λ same. true≢false (sym (eq-eqb p q (sym same)) ∙ h)))
]

sees_push : (start now after : SeenContent) (addresses : List ℕ) (p : ℕ) → SeesAll start now addresses → Sees now after p → SeesAll start after (addresses ++ p ∷ [])
sees_push start now after addresses p all one = record {
  files = one.files ∙ all.files;
  seen = λ q of.
      let here = one.seen q (ap (λ fs. is_of_files fs q) all.files ∙ of) in
      here
      ∙ ap (λ b. eqb q p || b) (all.seen q of)
      ∙ or_turned (eqb q p) (has_address addresses q) (is_seen start q)
      ∙ ap (λ b. (has_address addresses q || (b || false)) || is_seen start q) (eqb-turned q p)
      ∙ ap (λ b. b || is_seen start q) (sym (list_any-append (λ r. eqb r q) addresses (p ∷ [])));
}

-- the address was seen neither before nor since
pub fresh_at : (start now : SeenContent) (addresses : List ℕ) (p : ℕ) (role : Role) → SeesAll start now addresses → role_in start.files p ≡ Some role → is_seen now p ≡ false → is_seen start p ≡ false
fresh_at start now addresses p role sees is none =
    (or_parts (has_address addresses p) (is_seen start p) (sym (sees.seen p (role_of_files start.files p role is)) ∙ none)).1

pub addresses_step : (first next number : ℕ) (start : SeenContent) (role : Role) (whole : List ℕ) (i before : ℕ) (now : SeenContent) (addresses rest : List ℕ) (bound p : ℕ) (behind : List ℕ) (after : SeenContent) → next ≤ 2 ^ 56 → i < number →
    AreRead first next number start role whole i before now addresses rest bound → IsNextAddress bound next now after role before rest p behind →
    AreRead first next number start role whole (i + 1) p after (addresses ++ p ∷ []) behind (p + 1)
addresses_step first next number start role whole i before now addresses rest bound p behind after end_le lt read met =
    let counted = read.counted in
    let low = read.low in
    let from = met.from in
    let below = met.below in
    let less : before ≤ bound = bound_from first next number start role whole i before now addresses rest bound read in
    let place : role_in start.files p ≡ Some role = ap (λ fs. role_in fs p) (sym read.sees.files) ∙ met.place in
    let packed : IsPacked rest (p - before) behind = record { small = omega (arith, below, end_le); bytes = met.bytes } in
    let whole_p : before + (p - before) ≡ p = omega (arith, from, less) in
    record {
      counted = omega (arith, counted, length-append addresses (p ∷ []));
      low = omega (arith, low, from);
      high = omega (arith, below);
      none = λ e. absurd (omega arith);
      some = λ some. refl;
      rising = rise_push first bound (p + 1) addresses p read.rising read.low from (omega arith);
      last = last_of-push (first ∷ addresses) p;
      bytes =
          read.bytes ∙ ap (λ l. packed_from first addresses ++ l) met.bytes ∙ sym (append_assoc (packed_from first addresses) (spelling (p - before)) behind)
          ∙ ap (λ b. packed_from first addresses ++ spelling (p - b) ++ behind) (sym read.last)
          ∙ ap (λ l. l ++ behind) (sym (packed_from-push first addresses p));
      roles = all_push (λ q. role_in start.files q ≡ Some role) addresses p read.roles place;
      unseen = all_push (λ q. is_seen start q ≡ false) addresses p read.unseen (fresh_at start now addresses p role read.sees place met.fresh);
      sees = sees_push start now after addresses p read.sees met.sees;
      track = λ all end image.
          let has = has_next_address first next number start role whole i before now addresses rest bound lt read all end image in
          let cut = same_next before bound next (p - before) rest behind has.0 (packed_from has.0 has.1 ++ end) end_le less packed has.2.from has.2.below has.2.bytes in
          let same : p ≡ has.0 = sym whole_p ∙ cut.0 in (
            has.1,
            record {
              whole = has.2.whole ∙ ap (λ q. addresses ++ (q ∷ has.1)) (sym same) ∙ sym (append_assoc addresses (p ∷ []) has.1);
              bytes = cut.1 ∙ ap (λ q. packed_from q has.1 ++ end) (sym same);
              rising = subst (λ q. RiseWithin (q + 1) next has.1) (sym same) has.2.rising;
              roles = has.2.roles;
              unseen = has.2.unseen;
            },
          );
    }

-- no list of addresses is there
abbrev pub HaveNone : (first next number : ℕ) → SeenContent → Role → List ℕ → Type 0
HaveNone first next number start role whole = (all end : List ℕ) → AreAllAddresses first next number start role whole all end → ⊥

pub addresses_stop : (first next number : ℕ) (start : SeenContent) (role : Role) (whole : List ℕ) (i before : ℕ) (now : SeenContent) (addresses rest : List ℕ) (bound : ℕ) → i < number →
    AreRead first next number start role whole i before now addresses rest bound → HasNoNextAddress bound next now role before rest → HaveNone first next number start role whole
addresses_stop first next number start role whole i before now addresses rest bound lt read none all end is =
    let has = has_next_address first next number start role whole i before now addresses rest bound lt read all end is in
    let p = has.0 in
    let role_is = has.2.role_is in
    let lacks : has_address addresses p ≡ false = lacks_later first bound addresses p read.rising has.2.from in
    let was : is_seen now p ≡ (has_address addresses p || is_seen start p) = read.sees.seen p (role_of_files start.files p role role_is) in
    let fresh : is_seen now p ≡ false = was ∙ ap (λ b. b || is_seen start p) lacks ∙ has.2.fresh in
    none p (packed_from p has.1 ++ end) has.2.from has.2.below (ap (λ fs. role_in fs p) read.sees.files ∙ role_is) fresh has.2.bytes

-- the number of the addresses that are there is one
count_same : (format : Format) (whole : List ℕ) (n m : ℕ) (r s : List ℕ) → IsCountFront format whole n r → IsCountFront format whole m s → (n ≡ m) × (r ≡ s)
count_same One whole n m r s a b = eight_same n m r s a.small b.small (sym a.bytes ∙ b.bytes)
count_same Two whole n m r s a b =
    let some = a.some in
    let small = a.small in
    let more = b.some in
    let low = b.small in
    let cut = prefix_free (n - 1) (m - 1) r s (omega (arith, small, some)) (omega (arith, low, more)) (sym a.bytes ∙ b.bytes) in
    let same = cut.0 in
    (omega (arith, same, some, more), cut.1)

small_count : (format : Format) (n : ℕ) → n ≤ 2 ^ 56 → n < count_end format
small_count One n le = omega (arith, le)
small_count Two n le = omega (arith, le)

-- rising addresses are no more than the end
few_addresses : (first next : ℕ) (ps : List ℕ) → next ≤ 2 ^ 56 → RiseWithin first next ps → length ps ≤ 2 ^ 56
few_addresses first next ps le rise = let long = rise_length first next ps rise in omega (arith, long, le)

front_counted : (format : Format) (first next : ℕ) (start : SeenContent) (role : Role) (whole addresses rest : List ℕ) → next ≤ 2 ^ 56 → IsAddressesFront format first next start role whole addresses rest →
    IsCountFront format whole (length addresses) (packed_from first addresses ++ rest)
front_counted format first next start role whole addresses rest le is =
    record { some = is.some; small = small_count format (length addresses) (few_addresses first next addresses le is.fills.rising); bytes = is.bytes }

pub addresses_uncounted : (format : Format) (first next : ℕ) (start : SeenContent) (role : Role) (whole : List ℕ) → next ≤ 2 ^ 56 → HasNoCount format whole → HasNoAddresses format first next start role whole
addresses_uncounted format first next start role whole le none addresses rest is =
    none (length addresses) (packed_from first addresses ++ rest) (few_addresses first next addresses le is.fills.rising) (front_counted format first next start role whole addresses rest le is)

pub addresses_none : (format : Format) (first next : ℕ) (start : SeenContent) (role : Role) (whole : List ℕ) (number : ℕ) (behind : List ℕ) → next ≤ 2 ^ 56 → IsCountFront format whole number behind → HaveNone first next number start role behind →
    HasNoAddresses format first next start role whole
addresses_none format first next start role whole number behind le count none addresses rest is =
    let same = count_same format whole number (length addresses) behind (packed_from first addresses ++ rest) count (front_counted format first next start role whole addresses rest le is) in
    none addresses rest record { long = sym same.0; fills = is.fills; unseen = is.unseen; bytes = same.1 }

pub addresses_end : (format : Format) (first next : ℕ) (start : SeenContent) (role : Role) (whole : List ℕ) (number : ℕ) (behind : List ℕ) (i before : ℕ) (now : SeenContent) (addresses rest : List ℕ) (bound : ℕ) → next ≤ 2 ^ 56 → i ≡ number →
    IsCountFront format whole number behind → AreRead first next number start role behind i before now addresses rest bound → IsAddressesFront format first next start role whole addresses rest
addresses_end format first next start role whole number behind i before now addresses rest bound le done count read =
    let counted : length addresses ≡ number = read.counted ∙ done in
    let some = count.some in
    record {
      some = omega (arith, some, counted);
      fills = record { rising = rise_wider first first bound next addresses read.rising (le_refl first) read.high; roles = read.roles };
      unseen = read.unseen;
      bytes = count.bytes ∙ ap (λ l. count_bytes format number ++ l) read.bytes ∙ ap (λ n. count_bytes format n ++ (packed_from first addresses ++ rest)) (sym counted);
    }

pub address_rises : (first next number : ℕ) (start : SeenContent) (role : Role) (whole : List ℕ) (i before : ℕ) (now : SeenContent) (addresses rest : List ℕ) (bound p : ℕ) → next ≤ 2 ^ 56 → AreRead first next number start role whole i before now addresses rest bound →
    bound ≤ p → p < next → ArePostings (addresses ++ p ∷ [])
address_rises first next number start role whole i before now addresses rest bound p le read from below =
    rise_wider first 0 (2 ^ 56) (2 ^ 56) (addresses ++ p ∷ []) (rise_push first bound (2 ^ 56) addresses p read.rising read.low from (omega (arith, below, le))) (omega arith) (le_refl (2 ^ 56))

last_some : (first : ℕ) (ps : List ℕ) → 0 < length ps → last_of (first ∷ ps) ≡ last_of ps
last_some first [] some = absurd (omega (arith, some))
last_some first (p ∷ ps) some = refl

-- the last address that was read is the one before
pub last_read : (first next number : ℕ) (start : SeenContent) (role : Role) (whole : List ℕ) (i before : ℕ) (now : SeenContent) (addresses rest : List ℕ) (bound : ℕ) → 0 < i → AreRead first next number start role whole i before now addresses rest bound →
    last_of addresses ≡ before
last_read first next number start role whole i before now addresses rest bound some read =
    let counted = read.counted in
    sym (last_some first addresses (omega (arith, counted, some))) ∙ read.last

-- the same under other names of the list and of what comes after it
pub addresses_as : (first next number : ℕ) (start : SeenContent) (role : Role) (whole : List ℕ) (i before : ℕ) (now : SeenContent) (addresses more rest behind : List ℕ) (bound : ℕ) → AreRead first next number start role whole i before now addresses rest bound →
    more ≡ addresses → behind ≡ rest → AreRead first next number start role whole i before now more behind bound
addresses_as first next number start role whole i before now addresses more rest behind bound read same left =
    subst (λ l. AreRead first next number start role whole i before now l behind bound) (sym same) (subst (λ r. AreRead first next number start role whole i before now addresses r bound) (sym left) read)
