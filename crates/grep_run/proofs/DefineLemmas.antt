-- One definition after another, and the lines of a file of them.
use Rattle.std.proofs.Common.{◌≡◌, ◌∙◌, ◌∷◌, ◌&&◌, ◌<◌, ◌+◌, ℕ, true, false, not, List, length, drop, get_or, Some, None, Result, Ok, Err, refl, ap}
use Rattle.std.specs.Prelude.{filter, map}
use Rattle.std.specs.List.{list_all, slice_range}
use Rattle.std.proofs.lemmas.List.{at_drop_more}
use Rattle.script_lang.specs.Lines.{Line, line_of_cut, lines}
use Rattle.script_lang.specs.declared.line_cut.LineCut.{LineCut}
use Rattle.query_names.specs.Names.{Defined}
use Rattle.query_names.specs.PutIn.{most_query}
use Rattle.query_names.specs.Defining.{Defines, HasDefineCause}
use Rattle.query_names.specs.declared.fault.DefineFault.{DefineFault}
use Rattle.query_names.specs.declared.fault.DefineFault.TheVariants.{Name as FaultName, Query as FaultQuery, NoMemory as FaultNoMemory}
use Rattle.grep_run.specs.Definitions.{IsStopOf, are_short, defined_by, defined_by_all, define_next, definition_lines, parts_of, says_something, stop_of}
use Rattle.grep_run.specs.declared.defining.DefineRefusal.{DefineRefusal}
use Rattle.grep_run.specs.declared.defining.DefineRefusal.TheVariants.{NoName}
use Rattle.grep_run.specs.declared.defining.DefineStop.{DefineStop}
use Rattle.grep_run.specs.declared.defining.DefineStop.TheVariants.{Refused, NoMemory}

-- what stops the first stops both
pub stops_first : (next : Defined → Result Defined DefineRefusal) (first : Result Defined DefineRefusal) (stop : DefineStop) → IsStopOf first stop → IsStopOf (define_next next first) stop
stops_first next first (Refused refusal) is = ap (define_next next) is
stops_first next first NoMemory is = tt

-- a text that is no definition has no name
pub no_name : (defined : Defined) (text : List ℕ) → parts_of text ≡ None → IsStopOf (defined_by defined text) (Refused NoName)
no_name defined text none = rw none refl

-- a definition is made of a text that is a query
pub is_made : (old new : Defined) (text name query : List ℕ) → parts_of text ≡ Some (name, query) → Defines old new name query (Ok tt) → defined_by old text ≡ Ok new
is_made old new text name query parts (whole, is, after) = rw (parts, is.put, is.taken, after) refl

-- why it is not made
pub is_stopped : (old : Defined) (text name query : List ℕ) (fault : DefineFault) → parts_of text ≡ Some (name, query) → HasDefineCause old query (Err fault) → IsStopOf (defined_by old text) (stop_of fault)
is_stopped old text name query (FaultName fault) parts cause = rw (parts, cause) refl
is_stopped old text name query (FaultQuery fault) parts (whole, put, bad) = rw (parts, put, bad) refl
is_stopped old text name query FaultNoMemory parts cause = tt

-- the next of several definitions
pub next_of : (defined : Defined) (texts : List (List ℕ)) (i : ℕ) (text : List ℕ) → i < length texts → get_or texts i text ≡ text →
    defined_by_all defined (drop i texts) ≡ define_next (λ more. defined_by_all more (drop (i + 1) texts)) (defined_by defined text)
next_of defined texts i text below here =
    at_drop_more (defined_by_all defined) texts i text below ∙ ap (λ t. define_next (λ more. defined_by_all more (drop (i + 1) texts)) (defined_by defined t)) here

-- the lines starting at this place
module _ (bytes : List ℕ) (at : ℕ) (cut : LineCut) (line : lines most_query (drop at bytes) ≡ line_of_cut bytes cut ∷ lines most_query (drop cut.after bytes)) where
  pub short_more : are_short (drop at bytes) ≡ (not cut.long && are_short (drop cut.after bytes))
  short_more = ap (λ (ls : List Line). list_all (λ l. not l.long) ls) line

  pub lines_more : definition_lines (drop at bytes) ≡ filter says_something (slice_range bytes cut.from cut.to ∷ map (λ l. l.bytes) (lines most_query (drop cut.after bytes)))
  lines_more = ap (λ (ls : List Line). filter says_something (map (λ l. l.bytes) ls)) line

  -- a line that says something is one more
  pub line_taken : says_something (slice_range bytes cut.from cut.to) ≡ true → definition_lines (drop at bytes) ≡ slice_range bytes cut.from cut.to ∷ definition_lines (drop cut.after bytes)
  line_taken says = lines_more ∙ rw says refl

  -- and any other is passed over
  pub line_passed : says_something (slice_range bytes cut.from cut.to) ≡ false → definition_lines (drop at bytes) ≡ definition_lines (drop cut.after bytes)
  line_passed silent = lines_more ∙ rw silent refl
