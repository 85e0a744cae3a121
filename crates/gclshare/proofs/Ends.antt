-- What was written of a share that ended with 0.
use Rattle.std.proofs.Common.{◌≡◌, ℕ, List, Option, None, Some, IfSome, IsSome, refl, arith}
use Rattle.shared_edit.specs.Books.{ClosedContent, IsClosed}
use Rattle.share_run.specs.Shares.{IsShared}
use Rattle.share_run.specs.Statuses.{number_of}
use Rattle.share_run.specs.declared.options.ShareOptions.{ShareOptions}
use Rattle.share_run.specs.declared.status.ShareStatus.{ShareStatus}
use Rattle.share_run.specs.declared.status.ShareStatus.TheVariants.{Done, Usage, WriteFault, NoMemory}
use Rattle.gclshare.specs.Exits.{IsToldOf}

pub done_at_0 : (status : ShareStatus) → number_of status ≡ 0 → status ≡ Done
done_at_0 Done e = refl
done_at_0 Usage e = absurd (omega (arith, e))
done_at_0 WriteFault e = absurd (omega (arith, e))
done_at_0 NoMemory e = absurd (omega (arith, e))

pub told : (options : Option ShareOptions) (closed : Option ClosedContent) (old new : Option (List ℕ)) → IsSome closed → IfSome options (λ o. IfSome closed (λ c. IsShared o c old new)) → IfSome closed IsClosed
    → IsToldOf options old new
told options None old new some shared is = absurd (cc some)
told None (Some c) old new some shared is = record { closed = c; is_closed = is; shared = tt }
told (Some o) (Some c) old new some shared is = record { closed = c; is_closed = is; shared = shared }
