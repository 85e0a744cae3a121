use Rattle.gcl_locality.proofs.Windows.{told_near}
use Rattle.gcl_locality.proofs.laws.windows_tell.Goals as goal

pub returns : goal.returns
returns c = λ text part form low high le is. told_near text part form low high le is
