use Rattle.std.proofs.Common.{◌≡◌, ℕ, ◌+◌, ◌++◌, true, false, List, length, nat_lt, if◌then◌else◌, inl, inr, Option, Some, Ok, refl, sym, ap, ◌∙◌, subst, arith, length-append}
use Rattle.std.specs.Option.{option_map}
use Rattle.std.proofs.lemmas.Bool.{cases_Bool, lt-ltb, le-ltb}
use Rattle.script_answers.proofs.Prelude.{add_reply, address_end, content_reply, refusal_lines, tokens_of, unchanged, width_of, Answer, BeginsContent, Contents, EngineContent, FileError, Follows, Gives, IsAt, Limits, Loads, State}
use Rattle.gcl_model.proofs.Cases.{IfSome-at}
use Rattle.outside.specs.declared.files.Loaded.{Loaded}
use Rattle.outside.specs.declared.files.Loaded.TheVariants.{Long, Whole}
use Rattle.script_lang.specs.declared.refusals.Refusal.TheVariants.{TooLong}
use Rattle.answer_text.specs.declared.answer.Answer.TheVariants.{Refused}
use Rattle.script_answers.proofs.changes.add.Goals as goal

-- a file that is too long is refused
long_gives : (limits : Limits) (state : State) (name out : List ℕ) (held now : Option Contents) (engine : EngineContent) (loaded : Loaded) → loaded ≡ Long → Loads {E = FileError} held name limits.file (Ok loaded) out → now ≡ held
    → IsAt held engine false state → Gives (option_map (add_reply limits state name) (state.files name)) state engine false now (Refused TooLong)
long_gives limits state name out held now engine loaded is loads same at =
    let load = subst (λ (l : Loaded). Loads {E = FileError} held name limits.file (Ok l) out) is loads in
    let begins : BeginsContent state.files name out = IfSome-at (λ contents. BeginsContent contents name out) held state.files at.files load.1 in
    let size = load.0 in
    let far : nat_lt limits.file (length (out ++ begins.rest)) ≡ true = lt-ltb limits.file (length (out ++ begins.rest)) (omega (arith, size, length-append out begins.rest)) in
    record {
      reply = unchanged state (refusal_lines TooLong);
      is = ap (option_map (add_reply limits state name)) begins.is ∙ ap (λ b. Some (if b then unchanged state (refusal_lines TooLong) else content_reply state name (out ++ begins.rest))) far;
      follows = record { keeps = at.keeps; lines = refl; still = λ no. (refl, refl) };
      files = same ∙ at.files;
    }

-- adding changes no file outside
content_files : (state : State) (name content : List ℕ) → (content_reply state name content).after.files ≡ state.files
content_files state name content = elim (cases_Bool (nat_lt address_end (state.collection.next + width_of (tokens_of content)))) [
  | inl h ↦ rw h refl
  | inr h ↦ rw h refl
]

-- any other is added
whole_gives : (limits : Limits) (state : State) (name out text : List ℕ) (held now : Option Contents) (engine new : EngineContent) (answer : Answer) (loaded : Loaded) → loaded ≡ Whole → Loads {E = FileError} held name limits.file (Ok loaded) out
    → text ≡ out → now ≡ held → IsAt held engine false state → Follows (content_reply state name text) state new false answer
    → Gives (option_map (add_reply limits state name) (state.files name)) state new false now answer
whole_gives limits state name out text held now engine new answer loaded is loads all same at follows =
    let load = subst (λ (l : Loaded). Loads {E = FileError} held name limits.file (Ok l) out) is loads in
    let here : state.files name ≡ Some out = IfSome-at (λ (contents : Contents). contents name ≡ Some out) held state.files at.files load.1 in
    let near : nat_lt limits.file (length out) ≡ false = le-ltb limits.file (length out) load.0 in
    record {
      reply = content_reply state name out;
      is = ap (option_map (add_reply limits state name)) here ∙ ap (λ b. Some (if b then unchanged state (refusal_lines TooLong) else content_reply state name out)) near;
      follows = subst (λ l. Follows (content_reply state name l) state new false answer) all follows;
      files = same ∙ at.files ∙ sym (ap (λ f. Some f) (content_files state name out));
    }

pub returns-in-Long-clause-gives : goal.returns-in-Long-clause-gives
returns-in-Long-clause-gives g c = λ state at.
    long_gives c.args.setting.now.limits state c.args.name.now c.load.new.out.items (g.F.Files.held c.args.files.now) (g.F.Files.held c.load.new.self) c.args.engine.now c.in_ok-load.field-0 c.in-Long.is c.in_ok-load.ensures.loaded
    c.in_ok-load.ensures.same at

pub returns-clause-gives : goal.returns-clause-gives
returns-clause-gives g c = λ state at.
    whole_gives c.args.setting.now.limits state c.args.name.now c.load.new.out.items c.as_slice.result.now (g.F.Files.held c.args.files.now) (g.F.Files.held c.load.new.self) c.args.engine.now c.add_content.new.engine c.in_ok-answer-in-Whole.answer
    c.in_ok-load.field-0 c.in-Whole.is c.in_ok-load.ensures.loaded c.as_slice.ensures.value c.in_ok-load.ensures.same at (c.in_ok-answer-in-Whole.ensures.follows state at.keeps)
