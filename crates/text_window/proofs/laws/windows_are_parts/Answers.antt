use Rattle.text_window.proofs.Within.{windows_are_parts}
use Rattle.text_window.proofs.laws.windows_are_parts.Goals as goal

pub returns : goal.returns
returns c = λ text low high is. windows_are_parts text low high is
