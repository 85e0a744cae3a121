-- A setting may carry a proof that its limits are allowed, since there is one at most.
use Rattle.std.specs.Prelude.{ℕ}
use Rattle.std.specs.Coded.{×_prop, le_prop}
use Rattle.gcl_model.specs.Limits.{most_line, most_file, most_script, most_image, most_batch}
use Rattle.script_answers.specs.States.{AreLimits, IsLimit}
use Rattle.script_answers.specs.declared.limits.Limits.{Limits}

-- one limit is
IsLimit-prop : (most limit : ℕ) → IsProp (IsLimit most limit)
IsLimit-prop most limit = ×_prop le_prop le_prop

-- and so are all
pub AreLimits-prop : (limits : Limits) → IsProp (AreLimits limits)
AreLimits-prop limits =
    ×_prop (IsLimit-prop most_line limits.line) (×_prop (IsLimit-prop most_file limits.file) (×_prop (IsLimit-prop most_script limits.script)
    (×_prop (IsLimit-prop most_image limits.image) (IsLimit-prop most_batch limits.batch))))
