use Rattle.std.proofs.Common.{[], ◌∷◌, ◌++◌, refl, sym, subst, arith, ap, ◌∙◌}
use Rattle.std.specs.Option.{IfSome}
use Rattle.std.proofs.lemmas.Bool.{true≢false}
use Rattle.address_space.specs.Runs.{FileEntry, Precedes, last_file}
use Rattle.image_read.specs.Fronts.{entry}
use Rattle.image_read.specs.Reading.{IsNextFile}
use Rattle.image_read.proofs.FileTracking.{files_end, files_read_as, files_refuse, files_step, files_stop, upto_last}
use Rattle.image_read.proofs.files.read_files.Goals as goal

pub returns-in_default-clause-none : goal.returns-in_default-clause-none
returns-in_default-clause-none c none =
    files_stop _ _ _ _ _ _ _ _ _ _ _ c.requires.in_range c.requires.ids (omega (arith, c.loop-i-test.true)) c.loop-i.invariant (c.in_default.ensures.none refl)

pub returns-then-not-fits-clause-none : goal.returns-then-not-fits-clause-none
returns-then-not-fits-clause-none c none =
    files_refuse _ _ _ _ _ _ _ _ _ _ _ _ _ c.requires.in_range c.requires.ids (omega (arith, c.loop-i-test.true)) c.loop-i.invariant c.in-Some.ensures.some
    (λ next. true≢false (sym (c.fits.ensures.1 next) ∙ c.if-not-fits.true))

pub push-requires : goal.push-requires
push-requires c =
    let file = c.in-Some.file in
    let e = entry file.id file.base file.len file.name.now in
    let next : IsNextFile c.args.head.next c.args.head.next_id c.loop-i.least.id c.loop-i.least.base e = c.fits.ensures.0 c.if-not-fits.false in
    subst (λ (f : FileEntry). IfSome (last_file c.loop-i.files) (λ last. Precedes last f)) (sym c.in_ok-record_of.ensures)
    (upto_last _ _ _ _ _ _ c.loop-i.files e c.loop-i.invariant.upto next.id next.base)

pub loop-i-preserved : goal.loop-i-preserved
loop-i-preserved c =
    let file = c.in-Some.file in
    let e = entry file.id file.base file.len file.name.now in
    let next : IsNextFile c.args.head.next c.args.head.next_id c.loop-i.least.id c.loop-i.least.base e = c.fits.ensures.0 c.if-not-fits.false in
    files_read_as _ _ _ _ _ _ _ _ _ _ _ _ _ _
    (files_step _ _ _ _ _ _ _ _ _ _ _ e file.rest.now c.requires.in_range c.requires.ids (omega (arith, c.loop-i-test.true)) c.loop-i.invariant c.in-Some.ensures.some next)
    (c.in_ok-push.ensures.ok ∙ ap (λ (f : FileEntry). c.loop-i.files ++ f ∷ []) c.in_ok-record_of.ensures) c.behind-least.ensures.id c.behind-least.ensures.base

pub returns-clause-some : goal.returns-clause-some
returns-clause-some c =
    files_end _ _ _ _ _ _ _ _ _ _ _ (omega (arith, c.loop-i-test.false, c.loop-i.auto.i-end)) c.loop-i.invariant (c.fits_hole.ensures.0 c.if-not-fits_hole.false)
