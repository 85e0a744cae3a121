-- How much of a source was read, which of its lines are completed, and what the feed of its lines holds.
use Rattle.std.proofs.Common.{◌≡◌, ℕ, ◌+◌, ◌-◌, ◌≤◌, Bool, true, false, List, [], ◌∷◌, ◌++◌, length, take, drop, refl, sym, ap, ◌∙◌, subst, arith, cond, length-append, append_assoc, append-nil, take-add, Option, None, Some, IfSome}
use Rattle.std.specs.Prelude.{◌==◌, Result, Ok, Err, IsErrOf, IsErrAnd, flat_map}
use Rattle.std.proofs.lemmas.Grind.{flat_map-append}
use Rattle.live_version.proofs.PartLaws.{both_empty}
use Rattle.std.specs.Io.KnownBytes.{IsAtEnd}
use Rattle.std.proofs.lemmas.List.{append_cancel_left, length-drop, take-append-drop}
use Rattle.std.proofs.Math.Seq.{drop-append_seam}
use Rattle.std.proofs.Math.ListN.{drop_of_length-le}
use Rattle.std.proofs.KnownBytes.{Consumes-nil, Consumes-trans}
use Rattle.script_lang.specs.Lines.{Line, lines, ended, before_any}
use Rattle.script_lang.specs.Feeds.{Feed, has_newline}
use Rattle.script_lang.proofs.FeedLemmas.{is_newline}
use Rattle.script_lang.proofs.EndedLemmas.{lines_of_ended, done_is_ended, ended_begins}
use Rattle.query_run.specs.inner.Streams.{FeedsPiece, IsFed, IsSure, ReadsOn, ServesWithin, ending_of, fault_ending}
use Rattle.script_answers.specs.Stopped.{Ending, IsOfFiles}
use Rattle.script_answers.specs.inner.Service.{Halts, IsSureOfFiles, Serves, Stand, fault_ending as held_ending}
use Rattle.script_answers.proofs.Service.{halts_more, halts_on, serves_none, serves_on}
use Rattle.query_run.specs.Runs.{HandsOver, TakesAtMost, within}
use Rattle.query_run.specs.Faults.{of_read, of_run}
use Rattle.script_answers.specs.declared.limits.Limits.{Limits}
use Rattle.query_run.specs.declared.read.ReadFault.{ReadFault}
use Rattle.query_run.specs.declared.read.ReadFault.TheVariants.{Failed as ReadFailed, NoMemory as ReadNoMemory, TooLong as ReadTooLong}
use Rattle.script_answers.specs.declared.run_fault.RunFault.{RunFault}
use Rattle.script_answers.specs.declared.run_fault.RunFault.TheVariants.{Write, Files, NoMemory}
use Rattle.query_run.specs.declared.stream_fault.StreamFault.{StreamFault}
use Rattle.query_run.specs.declared.stream_fault.StreamFault.TheVariants.{TooLong as StreamTooLong}
use Rattle.query_run.proofs.WholeScripts.{all_read}
use Rattle.query_run.proofs.Beginnings.{halts_after, more_within, take_more}

-- What the source handed over.

-- nothing yet
pub hands_none : (left : Option (List ℕ)) → HandsOver 0 left left
hands_none left = record { taken = []; from = Consumes-nil left; count_is = refl }

-- and then the given number of bytes more
pub hands_more : (r count : ℕ) (left mid after : Option (List ℕ)) → HandsOver r left mid → HandsOver count mid after → HandsOver (r + count) left after
hands_more r count left mid after hands more = record {
  taken = hands.taken ++ more.taken;
  from = Consumes-trans left mid after hands.taken more.taken hands.from more.from;
  count_is = length-append hands.taken more.taken ∙ rw (hands.count_is, more.count_is) refl;
}

-- a piece that went into the feed
pub hands_piece : (r r' : ℕ) (old new : Feed) (left mid after : Option (List ℕ)) → r ≤ r' → HandsOver r left mid → FeedsPiece (r' - r) old new mid after → HandsOver r' left after
hands_piece r r' old new left mid after further hands fed =
    subst (λ (k : ℕ). HandsOver k left after) (omega (arith, further)) (hands_more r (r' - r) left mid after hands (record { taken = fed.piece; from = fed.from; count_is = fed.count_is }))

-- one byte above the limit
pub hands_over : (r most : ℕ) (left mid after : Option (List ℕ)) → r ≤ most → HandsOver r left mid → HandsOver (most - r + 1) mid after → HandsOver (most + 1) left after
hands_over r most left mid after short hands more =
    subst (λ (k : ℕ). HandsOver k left after) (omega (arith, short)) (hands_more r (most - r + 1) left mid after hands more)

-- this many are no more than that
pub takes_all : (n : ℕ) (left after : Option (List ℕ)) → HandsOver n left after → TakesAtMost n left after
takes_all n left after hands = record { taken = hands.taken; from = hands.from; few = omega (arith, hands.count_is) }

-- within the limit so far
pub takes_handed : (r most : ℕ) (left mid : Option (List ℕ)) → r ≤ most → HandsOver r left mid → TakesAtMost most left mid
takes_handed r most left mid short hands = record { taken = hands.taken; from = hands.from; few = omega (arith, short, hands.count_is) }

pub takes_none : (most : ℕ) (left : Option (List ℕ)) → TakesAtMost most left left
takes_none most left = record { taken = []; from = Consumes-nil left; few = omega arith }

-- and within the limit with the next piece
pub takes_more : (r most : ℕ) (left mid after : Option (List ℕ)) → r ≤ most → HandsOver r left mid → TakesAtMost (most - r) mid after → TakesAtMost most left after
takes_more r most left mid after short hands more = record {
  taken = hands.taken ++ more.taken;
  from = Consumes-trans left mid after hands.taken more.taken hands.from more.from;
  few = omega (arith, short, hands.count_is, more.few, length-append hands.taken more.taken);
}

-- The lines of what was read.

-- nothing was read
pub fed_none : (most n : ℕ) (script : List ℕ) → n ≡ 0 → IsFed most 0 n [] script
fed_none most n script none = subst (λ (k : ℕ). IsFed most 0 k [] script) (sym none) (record { within = omega arith; few = omega arith; lines_are = λ later. refl })

-- a piece more was read
fed_more : (most r n : ℕ) (held held' script taken piece rest : List ℕ) → IsFed most r n held script → script ≡ taken ++ (piece ++ rest) → length taken ≡ r →
    ((later : List ℕ) → lines most (held' ++ later) ≡ lines most (held ++ piece ++ later)) → IsFed most (r + length piece) n held' script
fed_more most r n held held' script taken piece rest fed whole count pushed =
    let behind : drop r script ≡ piece ++ rest = ap (λ (k : ℕ). drop k script) (sym count) ∙ ap (drop (length taken)) whole ∙ drop-append_seam taken (piece ++ rest) in
    let front : take (r + length piece) script ≡ take r script ++ piece = take_more r script piece rest behind in
    let done : List Line = take n (lines most script) in
    record {
      within = more_within r script piece rest fed.within behind;
      few = fed.few;
      lines_are = λ later.
          ap (λ (l : List ℕ). lines most (l ++ later)) front ∙ ap (lines most) (append_assoc (take r script) piece later) ∙ fed.lines_are (piece ++ later) ∙
          ap (λ (l : List ℕ). done ++ lines most l) (sym (append_assoc held piece later)) ∙ ap (λ (l : List Line). done ++ l) (sym (pushed later));
    }

-- the source handed over a piece, and it went into the feed
pub fed_piece : (most r r' n : ℕ) (old new : Feed) (left mid after : Option (List ℕ)) (script : List ℕ) → left ≡ Some script → old.most ≡ most → r ≤ r' → HandsOver r left mid → FeedsPiece (r' - r) old new mid after →
    IsFed most r n old.held script → IsFed most r' n new.held script
fed_piece most r r' n old new None mid after script is same further hands piece fed = absurd (cc is)
fed_piece most r r' n old new (Some all) None after script is same further hands piece fed = absurd hands.from
fed_piece most r r' n old new (Some all) (Some mid) None script is same further hands piece fed = absurd piece.from
fed_piece most r r' n old new (Some all) (Some mid) (Some after) script is same further hands piece fed =
    let here : all ≡ script = cc is in
    let from : all ≡ hands.taken ++ mid = hands.from in
    let next : mid ≡ piece.piece ++ after = piece.from in
    let whole : script ≡ hands.taken ++ (piece.piece ++ after) = sym here ∙ from ∙ ap (λ (l : List ℕ). hands.taken ++ l) next in
    let pushed : (later : List ℕ) → lines most (new.held ++ later) ≡ lines most (old.held ++ piece.piece ++ later) =
    subst (λ (m : ℕ). (later : List ℕ) → lines m (new.held ++ later) ≡ lines m (old.held ++ piece.piece ++ later)) same piece.lines_are in
    let count : r + length piece.piece ≡ r' = omega (arith, further, piece.count_is) in
    subst (λ (k : ℕ). IsFed most k n new.held script) count (fed_more most r n old.held new.held script hands.taken piece.piece after fed whole hands.count_is pushed)

-- the lines that are left are those of what is held and of the rest
fed_left : (most r n : ℕ) (held script : List ℕ) → IsFed most r n held script → drop n (lines most script) ≡ lines most (held ++ drop r script)
fed_left most r n held script fed =
    let all : List Line = lines most script in
    let whole : all ≡ take n all ++ lines most (held ++ drop r script) = ap (lines most) (sym (take-append-drop r script)) ∙ fed.lines_are (drop r script) in
    append_cancel_left (take n all) (drop n all) (lines most (held ++ drop r script)) (take-append-drop n all ∙ whole)

-- the bytes after the whole lines
step_split : (t : Bool) (b : ℕ) (part bytes rest : List ℕ) → part ++ rest ≡ bytes → (t ≡ true → b ≡ 10) → (behind : List ℕ) × (cond t (10 ∷ part) (before_any b part) ++ behind ≡ b ∷ bytes)
step_split true b part bytes rest whole is = (rest, ap (λ first. first ∷ (part ++ rest)) (sym (is refl)) ∙ ap (λ l. b ∷ l) whole)
step_split false b [] bytes rest whole is = (b ∷ rest, ap (λ l. b ∷ l) whole)
step_split false b (c ∷ part) bytes rest whole is = (rest, ap (λ l. b ∷ l) whole)

ended_split : (bytes : List ℕ) → (behind : List ℕ) × (ended bytes ++ behind ≡ bytes)
ended_split [] = ([], refl)
ended_split (b ∷ bytes) =
    let later = ended_split bytes in
    step_split (b == 10) b (ended bytes) bytes later.0 later.1 (is_newline b)

-- the whole lines that are held come next
pub fed_ahead : (most r n : ℕ) (held script : List ℕ) → IsFed most r n held script → (rest : List Line) × (drop n (lines most script) ≡ lines most (ended held) ++ rest)
fed_ahead most r n held script fed =
    let split = ended_split held in
    (lines most (split.0 ++ drop r script), fed_left most r n held script fed ∙ lines_of_ended most held split.0 (drop r script) split.1)

-- the whole lines that were held are completed
pub fed_served : (most r n n' : ℕ) (held held' script : List ℕ) → IsFed most r n held script → ((later : List ℕ) → lines most (held ++ later) ≡ lines most (ended held) ++ lines most (held' ++ later)) →
    n' ≡ n + length (lines most (ended held)) → IsFed most r n' held' script
fed_served most r n n' held held' script fed taken count =
    let all : List Line = lines most script in
    let served : List Line = lines most (ended held) in
    let ahead = fed_ahead most r n held script fed in
    let upto : take n' all ≡ take n all ++ served = ap (λ (k : ℕ). take k all) count ∙ take_more n all served ahead.0 ahead.1 in
    record {
      within = fed.within;
      few = subst (λ (k : ℕ). k ≤ length all) (sym count) (more_within n all served ahead.0 fed.few ahead.1);
      lines_are = λ later.
          fed.lines_are later ∙ ap (λ (l : List Line). take n all ++ l) (taken later) ∙ sym (append_assoc (take n all) served (lines most (held' ++ later))) ∙ ap (λ (l : List Line). l ++ lines most (held' ++ later)) (sym upto);
    }

-- if the script was read to its end, what is held are the lines that are left
pub fed_rest : (most r n : ℕ) (held script : List ℕ) → IsFed most r n held script → length script ≤ r → drop n (lines most script) ≡ lines most held ++ []
fed_rest most r n held script fed over =
    fed_left most r n held script fed ∙ ap (λ (l : List ℕ). lines most (held ++ l)) (drop_of_length-le script over) ∙ ap (lines most) (append-nil held) ∙ sym (append-nil (lines most held))

-- the lines that are completed are within the limit
pub fed_within : (most r n limit : ℕ) (held script : List ℕ) → IsFed most r n held script → has_newline held ≡ false → r ≤ limit →
    (more : List Line) × (lines most (within limit script) ≡ take n (lines most script) ++ more)
fed_within most r n limit held script fed none short =
    let count : r + (limit - r) ≡ limit = omega (arith, short) in
    let front : take limit script ≡ take r script ++ take (limit - r) (drop r script) = ap (λ (k : ℕ). take k script) (sym count) ∙ take-add r (limit - r) script in
    let done : take n (lines most script) ≡ lines most (ended (take r script)) = done_is_ended most (take r script) held (take n (lines most script)) fed.lines_are none in
    let begin = ended_begins most (take r script) (take (limit - r) (drop r script)) in
    (begin.0, ap (λ (l : List ℕ). lines most (ended l)) front ∙ begin.1 ∙ ap (λ (l : List Line). l ++ begin.0) (sym done))

-- What was served of what was read.

module _ (limits : Limits) (script : List ℕ) (before : Stand) (old : Option (List ℕ)) where
  -- nothing was read
  pub reads_none : before.completed ≡ 0 → ReadsOn limits script 0 [] before before old old
  reads_none none = record {
    fed = fed_none limits.line before.completed script none;
    come = subst (λ (n : ℕ). Serves limits (take n (lines limits.line script)) before before old old) (sym none) (serves_none limits before old);
  }

  -- the whole lines that were held are served
  pub reads_served : (r : ℕ) (held held' : List ℕ) (mid now : Stand) (middle new : Option (List ℕ)) → ReadsOn limits script r held before mid old middle →
      ((later : List ℕ) → lines limits.line (held ++ later) ≡ lines limits.line (ended held) ++ lines limits.line (held' ++ later)) →
      Serves limits (lines limits.line (ended held)) mid now middle new → ReadsOn limits script r held' before now old new
  reads_served r held held' mid now middle new reads taken serves =
      let n = mid.completed in
      let all = lines limits.line script in
      let ahead = fed_ahead limits.line r n held script reads.fed in
      let count : now.completed ≡ n + length (lines limits.line (ended held)) = serves.completed in
      let upto : take now.completed all ≡ take n all ++ lines limits.line (ended held) = ap (λ (k : ℕ). take k all) count ∙ take_more n all (lines limits.line (ended held)) ahead.0 ahead.1 in
      record {
        fed = fed_served limits.line r n now.completed held held' script reads.fed taken count;
        come = subst (λ (l : List Line). Serves limits l before now old new) (sym upto) (serves_on limits (take n all) (lines limits.line (ended held)) before mid now old middle new reads.come serves);
      }

  -- it ended among lines that come next
  pub reads_halts : (r : ℕ) (held : List ℕ) (batch rest : List Line) (how : Ending) (kept : Type 0) (mid now : Stand) (middle new : Option (List ℕ)) → ReadsOn limits script r held before mid old middle →
      drop mid.completed (lines limits.line script) ≡ batch ++ rest → Halts limits batch how kept mid now middle new → Halts limits (lines limits.line script) how kept before now old new
  reads_halts r held batch rest how kept mid now middle new reads next halts =
      let all = lines limits.line script in
      let done = take mid.completed all in
      let whole : all ≡ (done ++ batch) ++ rest = sym (take-append-drop mid.completed all) ∙ ap (λ (l : List Line). done ++ l) next ∙ sym (append_assoc done batch rest) in
      halts_more limits all (done ++ batch) rest how kept before now old new whole (halts_on limits (done ++ batch) done batch how kept before mid now old middle new refl reads.come halts)

  -- it ended before the next line
  pub reads_stop : (r : ℕ) (held : List ℕ) (how : Ending) (kept : Type 0) (mid : Stand) (middle : Option (List ℕ)) → (IsOfFiles how → ⊥) → ReadsOn limits script r held before mid old middle →
      Halts limits (lines limits.line script) how kept before mid old middle
  reads_stop r held how kept mid middle ours reads =
      let all = lines limits.line script in
      halts_more limits all (take mid.completed all) (drop mid.completed all) how kept before mid old middle (sym (take-append-drop mid.completed all))
      (halts_after limits (take mid.completed all) how kept before mid old middle ours reads.come)

  -- the lines that come last are served
  pub reads_all : (r : ℕ) (held : List ℕ) (batch : List Line) (mid now : Stand) (middle new : Option (List ℕ)) → ReadsOn limits script r held before mid old middle →
      drop mid.completed (lines limits.line script) ≡ batch ++ [] → Serves limits batch mid now middle new → Serves limits (lines limits.line script) before now old new
  reads_all r held batch mid now middle new reads last serves =
      let all = lines limits.line script in
      let whole : all ≡ take mid.completed all ++ batch = sym (take-append-drop mid.completed all) ∙ ap (λ (l : List Line). take mid.completed all ++ l) (last ∙ append-nil batch) in
      subst (λ (l : List Line). Serves limits l before now old new) (sym whole) (serves_on limits (take mid.completed all) batch before mid now old middle new reads.come serves)

  -- what was served ends within the limit
  pub reads_within : (r : ℕ) (held : List ℕ) (mid : Stand) (middle : Option (List ℕ)) → has_newline held ≡ false → r ≤ limits.script → ReadsOn limits script r held before mid old middle → ServesWithin limits script before mid old middle
  reads_within r held mid middle none short reads =
      let more = fed_within limits.line r mid.completed limits.script held script reads.fed none short in
      record { served = take mid.completed (lines limits.line script); rest = more.0; whole = more.1; later = drop mid.completed (lines limits.line script); first = sym (take-append-drop mid.completed (lines limits.line script)); serves = reads.come }

-- what is so at the script
pub at_script : (left : Option (List ℕ)) (P : List ℕ → Type 0) → ((script : List ℕ) → left ≡ Some script → P script) → IfSome left P
at_script None P h = tt
at_script (Some script) P h = h script refl

-- what was handed over to the end is no less than the script
pub hands_all : (r : ℕ) (left after : Option (List ℕ)) (script : List ℕ) → left ≡ Some script → HandsOver r left after → IsAtEnd after → length script ≤ r
hands_all r left after script is hands end = omega (arith, hands.count_is, ap length (all_read left after script hands.taken hands.from end is))

-- a fault of a run is one of the stream
pub run_ending : (fault : RunFault) → fault_ending (of_run fault) ≡ held_ending fault
run_ending Write = refl
run_ending Files = refl
run_ending NoMemory = refl

-- how a call ended, by its fault
pub ending_is : {T : Type 0} (r : Result T StreamFault) (fault : StreamFault) → IsErrAnd r (λ e. e ≡ fault) → ending_of r ≡ fault_ending fault
ending_is (Ok v) fault is = absurd is
ending_is (Err e) fault is = ap fault_ending is

-- no read is a fault of the files
pub no_files : (fault : ReadFault) → IsOfFiles (fault_ending (of_read fault)) → ⊥
no_files ReadFailed failed = failed
no_files ReadTooLong failed = failed
no_files ReadNoMemory failed = failed

-- what is sure of a fault of a run
pub sure_run : {T : Type 0} (r : Result T StreamFault) (fault : RunFault) → IsErrAnd r (λ e. e ≡ of_run fault) → IsSure r → IsSureOfFiles {T = T} (Err fault)
sure_run (Ok v) fault is sure = absurd is
sure_run (Err e) Write is sure = tt
sure_run {T} (Err e) Files is sure = subst (λ (f : StreamFault). IsSure {T = T} (Err f)) is sure
sure_run {T} (Err e) NoMemory is sure = subst (λ (f : StreamFault). IsSure {T = T} (Err f)) is sure

pub long_read : (fault : ReadFault) → of_read fault ≡ StreamTooLong → fault ≡ ReadTooLong
long_read ReadFailed is = absurd (cc is)
long_read ReadTooLong is = refl
long_read ReadNoMemory is = absurd (cc is)

pub long_ended : {T : Type 0} (r : Result T StreamFault) (fault : ReadFault) → IsErrAnd r (λ e. e ≡ of_read fault) → fault ≡ ReadTooLong → IsErrOf r StreamTooLong
long_ended (Ok b) fault is long = absurd is
long_ended (Err e) fault is long = ap Err (is ∙ ap of_read long)

-- a read that ended as too long
pub read_long : {T : Type 0} (r : Result T StreamFault) (fault : ReadFault) → IsErrAnd r (λ e. e ≡ of_read fault) → IsErrOf r StreamTooLong → fault ≡ ReadTooLong
read_long (Ok b) fault is long = absurd is
read_long (Err e) fault is long =
    let same : e ≡ StreamTooLong = cc long in
    long_read fault (sym is ∙ same)

-- the whole lines are no more than all bytes
pub ended_few : (bytes : List ℕ) → length (ended bytes) ≤ length bytes
ended_few bytes =
    let split = ended_split bytes in
    omega (arith, length-append (ended bytes) split.0, ap length split.1)

-- the lines that a piece makes ready come next
pub come_next : (most r r' n : ℕ) (old new : Feed) (left mid after : Option (List ℕ)) (script ready : List ℕ) → left ≡ Some script → old.most ≡ most → r ≤ r' → HandsOver r left mid → FeedsPiece (r' - r) old new mid after →
    ready ≡ ended new.held → IsFed most r n old.held script → (rest : List Line) × (drop n (lines most script) ≡ lines most ready ++ rest)
come_next most r r' n old new left mid after script ready is same further hands piece whole fed =
    let ahead = fed_ahead most r' n new.held script (fed_piece most r r' n old new left mid after script is same further hands piece fed) in
    (ahead.0, ahead.1 ∙ ap (λ (l : List ℕ). lines most l ++ ahead.0) (sym whole))

-- at the end of the script what is held comes last
pub come_last : (most r r' n : ℕ) (old new : Feed) (left mid after : Option (List ℕ)) (script rest : List ℕ) → left ≡ Some script → old.most ≡ most → r ≤ r' → HandsOver r left mid → FeedsPiece (r' - r) old new mid after →
    IsAtEnd after → rest ≡ new.held → IsFed most r n old.held script → drop n (lines most script) ≡ lines most rest ++ []
come_last most r r' n old new left mid after script rest is same further hands piece end whole fed =
    fed_rest most r' n new.held script (fed_piece most r r' n old new left mid after script is same further hands piece fed)
    (hands_all r' left after script is (hands_piece r r' old new left mid after further hands piece) end) ∙ ap (λ (l : List ℕ). lines most l ++ []) (sym whole)

-- the lines that come last are all that is left
pub all_done : (n m : ℕ) (all batch : List Line) → n ≤ length all → drop n all ≡ batch ++ [] → m ≡ n + length batch → m ≡ length all
all_done n m all batch within is count =
    let behind : length all - n ≡ length batch + 0 = sym (length-drop n all) ∙ ap length is ∙ length-append batch [] in
    omega (arith, behind, within, count)

-- if no line has a name, no lines among them have one
pub none_among : (f : Line → List (List ℕ)) (n : ℕ) (all batch rest : List Line) → drop n all ≡ batch ++ rest → flat_map f all ≡ [] → flat_map f batch ≡ []
none_among f n all batch rest is none =
    let split : flat_map f all ≡ flat_map f (take n all) ++ (flat_map f batch ++ flat_map f rest) =
    ap (flat_map f) (sym (take-append-drop n all)) ∙ flat_map-append f (take n all) (drop n all) ∙ ap (λ (l : List Line). flat_map f (take n all) ++ flat_map f l) is ∙
    ap (λ (l : List (List ℕ)). flat_map f (take n all) ++ l) (flat_map-append f batch rest) in
    (both_empty (flat_map f batch) (flat_map f rest) ((both_empty (flat_map f (take n all)) (flat_map f batch ++ flat_map f rest) (sym split ∙ none)).1)).0
