use Rattle.std.proofs.Common.{◌≡◌, subst, rules}
use Rattle.outside_std.specs.Loading.{Opens}
use Rattle.outside_std.proofs.Pieces.{opened_content}
use Rattle.outside_std.proofs.files.load_from.Goals as goal

pub returns-in-Ok-open : goal.returns-in-Ok-open
returns-in-Ok-open g c =
    let same : c.in-Ok.path.now ≡ c.args.name.now = search rules in
    let opens = subst (λ name. Opens (g.D.Disk.held c.args.disk.now) name (g.D.Opened.Read.remaining c.in-Ok-open.file)) same c.in-Ok-open.ensures in
    opened_content _ c.args.name.now _ c.args.most c.read_up_to.result c.read_up_to.new.out.items opens c.read_up_to.ensures.bytes
