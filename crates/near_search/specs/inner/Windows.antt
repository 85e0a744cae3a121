-- What is always true of members that are read over a window.
use Rattle.std.specs.Prelude.{◌≡◌, ℕ, ◌≤◌, ◌<◌, List, [], length, take, drop}
use Rattle.std.specs.List.{AllByRecursion}
use Rattle.gcl_eval.specs.Members.{members_from}
use Rattle.gcl_model.specs.Extents.{Extent}
use Rattle.gcl_model.specs.FormOf.{form_of}
use Rattle.gcl_model.specs.Forms.{Form}
use Rattle.gcl_model.specs.Limits.{address_end, far}
use Rattle.gcl_model.specs.Meaning.{concordance}
use Rattle.gcl_model.specs.Texts.{Text}
use Rattle.gcl_model.specs.WellFormed.{IsWellFormed}
use Rattle.gcl_readers.specs.MergeCost.{cost_left, merge_cost}
use Rattle.gcl_readers.specs.Reading.{behind_page}
use Rattle.gcl_readers.specs.Standing.{Stands, start_at}
use Rattle.live_version.specs.Contents.{version_text}
use Rattle.manifest_publish.specs.Accounts.{EndsWith}
use Rattle.collection.specs.Engines.{last_of}
use Rattle.near_search.specs.declared.window_pages.Part.{Part}
use Rattle.near_search.specs.declared.window_pages.Stage.{Stage}
use Rattle.near_search.specs.declared.window_pages.Stage.TheVariants.{Fresh, On, Over}
use Rattle.query_search.specs.Pages.{Way, reading, ended}
use Rattle.reader_pass.specs.Members.{access_most}
use Rattle.text_window.specs.Within.{within}

-- the part of the text of the last version of a history
abbrev pub text_of_part : Part → Text
text_of_part part = within (version_text (last_of part.pass.history)) part.window.low part.window.high

-- readers that stand in the lists over a text passed no member that starts at or after an address
abbrev pub IsStage : Text → Form → (from : ℕ) → Stage → Type 0
IsStage text form from Fresh = Unit {0}
IsStage text form from (On readers) = Stands text form readers × (start_at readers ≤ from)
IsStage text form from Over = Unit {0}

-- the members that are to come: those that start at `from` or later, and none at the end
abbrev pub to_come_at : Text → Form → (from : ℕ) → Stage → List Extent
to_come_at text form from Fresh = members_from (concordance text form) from
to_come_at text form from (On readers) = members_from (concordance text form) from
to_come_at text form from Over = []

-- how they are found
abbrev pub way_at : Text → (most : ℕ) → Form → Stage → Way
way_at text most form Fresh = reading (merge_cost text most form)
way_at text most form (On readers) = reading (cost_left text most form readers)
way_at text most form Over = ended

-- what is always true of pages over a part of the text
pub record IsReading (part : Part) (from : ℕ) (stage : Stage) : Type 0 where
  pub last : EndsWith part.pass.history (last_of part.pass.history)
  pub well_formed : IsWellFormed (form_of part.expr.value)
  pub below : from < far
  pub standing : IsStage (text_of_part part) (form_of part.expr.value) from stage

-- all members of the expression of a part
abbrev pub list_of_part : Part → List Extent
list_of_part part = concordance (text_of_part part) (form_of part.expr.value)

-- those that are to come
abbrev pub to_come_of : Part → (from : ℕ) → Stage → List Extent
to_come_of part from stage = to_come_at (text_of_part part) (form_of part.expr.value) from stage

-- and how they are found
abbrev pub way_of : Part → Stage → Way
way_of part stage = way_at (text_of_part part) (access_most (last_of part.pass.history)) (form_of part.expr.value) stage

-- what is true of a page of at most `most` of the members that were to come, and of the stage after it
pub record IsPage (part : Part) (from most : ℕ) (to_come page : List Extent) (stage : Stage) : Type 0 where
  pub ok : page ≡ take most to_come
  pub rest : to_come_of part (behind_page from page) stage ≡ drop most to_come
  pub is : IsReading part (behind_page from page) stage
  pub short : length page < most → stage ≡ Over
  pub below : AllByRecursion (λ (a : Extent). a.start < address_end) page
