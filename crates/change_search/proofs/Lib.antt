mod CostLemmas
mod EditLemmas
mod LocalLemmas
mod OpeningLemmas
mod SideLemmas
mod StepLemmas
mod Worked
