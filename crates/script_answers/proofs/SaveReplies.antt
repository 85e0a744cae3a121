-- The replies to saving and opening, by what an engine and the files do.
use Rattle.std.proofs.Common.{◌≡◌, ℕ, ◌+◌, ◌^◌, ◌≤◌, ◌<◌, inl, inr, false, List, [], ◌∷◌, length, bytes_eq, Option, None, Some, refl, sym, ap, ◌∙◌, subst, arith}
use Rattle.std.specs.Option.{option_map}
use Rattle.std.proofs.lemmas.Bool.{cases_Bool}
use Rattle.std.proofs.lemmas.List.{length-map}
use Rattle.std.proofs.lemmas.Slice.Eq.{bytes_eq-Decides}
use Rattle.script_answers.proofs.Prelude.{changed_at, empty_from, empty_version, entry_of, files_of, most_file, opened_line, ranges_of, reading_reply, tokens_of, with_file, CanBeSaved, ChangesOnly, Collection, Contents, EngineContent, Follows, IsAt, IsEngine, IsFresh, Keeps, Reply, StandsFor, State, Unmade, VersionContent}
use Rattle.address_space.proofs.CollectionLemmas.{adding_keeps_soundness}
use Rattle.image_file.proofs.ImageLaws.{spelled_short}
use Rattle.image_file.proofs.Saving.{added_short, deleted_saves, start_saves}
use Rattle.image_read.specs.Answers.{IsImageOf, IsReading}
use Rattle.image_read.proofs.Readings.{reads}
use Rattle.word_tokens.proofs.PartLemmas.{tokens_within}
use Rattle.gcl_model.proofs.Lists.{all_weaker}
use Rattle.collection.specs.Changes.{Adopts, AddsFileTo, DeletesFileFrom}
use Rattle.script_lang.specs.declared.refusals.Refusal.TheVariants.{NotImage}
use Rattle.answer_text.specs.declared.answer.Answer.TheVariants.{Opened, Refused}
use Rattle.script_answers.proofs.Replies.{refused_follows}

-- after a keep that failed, all names but one hold what they held
pub held_but_one : (state : State) (name : List ℕ) (failed failed' : ℕ) (engine : EngineContent) (before now : Option Contents) → IsAt before engine false state → ChangesOnly name before now →
    failed' ≡ failed + 1 → Unmade (name ∷ []) (failed' ≡ failed) state engine now
held_but_one state name failed failed' engine before now at changes one = record {
  stands = at.keeps.stands;
  exact = λ none. absurd (omega (arith, one, none));
  files = record {
    contents = changed_at name changes.content state.files;
    is = changes.is ∙ ap (option_map (changed_at name changes.content)) at.files;
    same = λ other. elim (cases_Bool (bytes_eq name other)) [
      | inl h ↦ let same : name ≡ other = (bytes_eq-Decides name other).0 h in inr (0, omega arith, same)
      | inr h ↦ inl (rw h refl)
    ];
  };
}

-- what is no image is refused
pub reading_refused : (state : State) (bytes : List ℕ) (engine : EngineContent) → ((o : Option Collection) → IsReading bytes o → o ≡ None) → Keeps engine false state →
    IsReading bytes (state.images bytes) → Follows (reading_reply state (state.images bytes)) state engine false (Refused NotImage)
reading_refused state bytes engine none keeps reading =
    refused_follows (reading_reply state (state.images bytes)) state NotImage engine engine (ap (reading_reply state) (none (state.images bytes) reading)) keeps refl

-- the collection that it was read as
read_as : (state : State) (bytes : List ℕ) (v : VersionContent) → (image : IsImageOf bytes v) → IsReading bytes (state.images bytes) → reading_reply state (state.images bytes) ≡ reading_reply state (Some image.1)
read_as state bytes v image reading = ap (reading_reply state) (reads bytes (state.images bytes) image.0 image.1 image.2 reading)

pub follows_opening : (state : State) (bytes : List ℕ) (old opened : VersionContent) (new : EngineContent) (files : ℕ) → IsImageOf bytes opened → Adopts old opened new.version →
    files ≡ length (files_of opened.slots) → IsReading bytes (state.images bytes) → Follows (reading_reply state (state.images bytes)) state new false (Opened files)
follows_opening state bytes old opened new files image adopts counted reading =
    let number : files ≡ length image.1.files = counted ∙ ap length image.3.stands.files ∙ length-map image.1.files entry_of in
    record {
      keeps = subst (λ (r : Reply). Keeps new false r.after) (sym (read_as state bytes opened image reading))
          (record { stands = adopts.stands image.1 image.3.stands; slots = sym image.3.ranges ∙ sym (ap ranges_of adopts.slots) });
      lines = ap (λ (r : Reply). r.lines) (read_as state bytes opened image reading) ∙ ap (λ n. opened_line n ∷ []) (sym number);
      still = λ no. absurd (cc no);
    }

-- what can be saved stays so
pub opened_savable : (bytes : List ℕ) (old opened new : VersionContent) → IsImageOf bytes opened → Adopts old opened new → CanBeSaved new
opened_savable bytes old opened new image adopts = (
  image.1,
  record { stands = adopts.stands image.1 image.3.stands; sound = image.2.said.sound; short = spelled_short image.0 bytes image.1 image.2 },
)

pub added_savable : (old new : VersionContent) (name content : List ℕ) → CanBeSaved old → AddsFileTo old new name (tokens_of content) → length content ≤ most_file → CanBeSaved new
added_savable old new name content can adds few =
    let step = adds.stands can.0 can.1.stands in (
      with_file can.0 name (tokens_of content),
      record {
        stands = step.1;
        sound = adding_keeps_soundness can.0 name (tokens_of content) can.1.sound step.0;
        short = added_short can.0 name (tokens_of content) can.1.short
            (all_weaker (λ (t : List ℕ). length t ≤ length content) (λ (t : List ℕ). length t < 2 ^ 56) (λ t short. omega (arith, short, few)) (tokens_of content) (tokens_within content));
      },
    )

pub deleted_savable : (old new : VersionContent) (id : ℕ) → CanBeSaved old → DeletesFileFrom old new id → CanBeSaved new
deleted_savable old new id can deletes = deleted_saves old new id can (λ c stands. (deletes.stands c stands).1)

-- so can an engine that was just opened
pub fresh_savable : (engine : EngineContent) (lines : ℕ) → IsFresh engine lines → IsEngine engine → CanBeSaved engine.version
fresh_savable engine lines fresh is =
    let first : ℕ = engine.version.first in
    let empty : StandsFor (empty_version first) (empty_from first) = record { first = refl; next = refl; next_id = refl; dels = refl; files = refl; words = refl } in
    let sound = is.sound (empty_from first) (subst (λ (v : VersionContent). StandsFor v (empty_from first)) (sym fresh.version) empty) in
    subst CanBeSaved (sym fresh.version) (start_saves first sound.in_range)
