use Rattle.std.proofs.Common.{◌≡◌, [], refl, sym, ap, arith, None}
use Rattle.live_version.specs.Contents.{VersionContent, ranges_of}
use Rattle.live_version.specs.Changes.{opened}
use Rattle.live_version.specs.StandsFor.{Opens}
use Rattle.collection.specs.Changes.{IsOpened}
use Rattle.index_tests.proofs.engine.image.Goals as goal

-- no file is left of the two, whose addresses are 7 to 11
image-opened : (v : VersionContent) → v ≡ opened 7 12 2 None → Opens [] v → IsOpened v
image-opened v is opens = record {
  fresh = ap (λ u. u.dels) is;
  collection = record { first = 7; next = 12; next_id = 2; dels = 0; files = [] };
  sound = record { ordered = omega arith; in_range = omega arith; files = (omega arith, omega arith, (λ e. absurd (omega arith), omega arith)) };
  stands = opens record { first = 7; next = 12; next_id = 2; dels = 0; files = [] } (sym (ap (λ u. u.first) is)) (sym (ap (λ u. u.next) is)) (sym (ap (λ u. u.next_id) is)) (sym (ap (λ u. u.dels) is)) record { files = refl; words = refl };
  ranges = ap (λ u. ranges_of u.slots) is;
}

pub returns : goal.returns
returns c = image-opened c.in_ok-version.version c.in_ok-version.ensures.value c.in_ok-version.ensures.stands
