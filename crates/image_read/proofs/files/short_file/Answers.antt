use Rattle.std.proofs.Common.{refl}
use Rattle.image_read.proofs.Fronts.{short_base, short_len, short_name, short_read, short_size}
use Rattle.image_read.proofs.files.short_file.Goals as goal

pub returns-in_err-base-clause-none : goal.returns-in_err-base-clause-none
returns-in_err-base-clause-none c none =
    short_base c.args.least.id c.args.least.base c.args.bytes.now c.in_ok-id.id.rest.now c.in_ok-id.id.value c.in_ok-id.ensures.some (c.in_err-base.ensures.none refl)

pub returns-in_err-len-clause-none : goal.returns-in_err-len-clause-none
returns-in_err-len-clause-none c none =
    short_len c.args.least.id c.args.least.base c.args.bytes.now c.in_ok-id.id.rest.now c.in_ok-base.base.rest.now c.in_ok-id.id.value c.in_ok-base.base.value c.in_ok-id.ensures.some c.in_ok-base.ensures.some
    (c.in_err-len.ensures.none refl)

pub returns-in_err-size-clause-none : goal.returns-in_err-size-clause-none
returns-in_err-size-clause-none c none =
    short_size c.args.least.id c.args.least.base c.args.bytes.now c.in_ok-id.id.rest.now c.in_ok-base.base.rest.now c.in_ok-len.len.rest.now c.in_ok-id.id.value c.in_ok-base.base.value c.in_ok-len.len.value
    c.in_ok-id.ensures.some c.in_ok-base.ensures.some c.in_ok-len.ensures.some (c.in_err-size.ensures.none refl)

pub returns-in_err-name-clause-none : goal.returns-in_err-name-clause-none
returns-in_err-name-clause-none c none =
    short_name c.args.least.id c.args.least.base c.args.bytes.now c.in_ok-id.id.rest.now c.in_ok-base.base.rest.now c.in_ok-len.len.rest.now c.in_ok-size.size.rest.now c.in_ok-id.id.value c.in_ok-base.base.value
    c.in_ok-len.len.value c.in_ok-size.size.value c.in_ok-id.ensures.some c.in_ok-base.ensures.some c.in_ok-len.ensures.some c.in_ok-size.ensures.some (c.in_err-name.ensures.none refl)

pub returns-clause-some : goal.returns-clause-some
returns-clause-some c =
    short_read c.args.least.id c.args.least.base c.args.bytes.now c.in_ok-id.id.rest.now c.in_ok-base.base.rest.now c.in_ok-len.len.rest.now c.in_ok-size.size.rest.now c.in_ok-name.name.text.now c.in_ok-name.name.rest.now
    c.in_ok-id.id.value c.in_ok-base.base.value c.in_ok-len.len.value c.in_ok-size.size.value c.in_ok-id.ensures.some c.in_ok-base.ensures.some c.in_ok-len.ensures.some c.in_ok-size.ensures.some c.in_ok-name.ensures.some
