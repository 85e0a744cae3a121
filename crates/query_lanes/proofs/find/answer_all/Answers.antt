use Rattle.std.proofs.Common.{◌≡◌, ℕ, suc, ◌+◌, ◌<◌, ◌≤◌, List, [], ◌∷◌, ◌++◌, length, map, drop, get_or, ap, sym, ◌∙◌, append_assoc, arith}
use Rattle.std.proofs.lemmas.List.{append-nil, drop_all}
use Rattle.std.proofs.Math.Seq.{drop-cons}
use Rattle.live_version.specs.Contents.{version_text}
use Rattle.query_lanes.specs.Answers.{answer_in}
use Rattle.query_lanes.proofs.find.answer_all.Goals as goal

-- one more image, if those so far and those to come are all
mapped_more : {A B : Type 0} (f : A → B) (xs : List A) (i : ℕ) (x : A) (y : B) (done more all : List B) → i < length xs → x ≡ get_or xs i x → y ≡ f x → more ≡ done ++ y ∷ []
    → done ++ map f (drop i xs) ≡ all → more ++ map f (drop (i + 1) xs) ≡ all
mapped_more f xs i x y done more all lt here is pushed so =
    let next : suc i ≡ i + 1 = omega arith in
    ap (λ l. l ++ map f (drop (i + 1) xs)) (pushed ∙ ap (λ z. done ++ z ∷ []) (is ∙ ap f here)) ∙ append_assoc done (f (get_or xs i x) ∷ []) (map f (drop (i + 1) xs))
    ∙ ap (λ n. done ++ (f (get_or xs i x) ∷ map f (drop n xs))) (sym next)
    ∙ ap (λ l. done ++ map f l) (sym (drop-cons xs i x lt)) ∙ so

-- at the end none is to come
mapped_all : {A B : Type 0} (f : A → B) (xs : List A) (i : ℕ) (done all : List B) → length xs ≤ i → done ++ map f (drop i xs) ≡ all → done ≡ all
mapped_all f xs i done all le so = sym (append-nil done) ∙ ap (λ l. done ++ map f l) (sym (drop_all i xs le)) ∙ so

pub loop-ask-preserved : goal.loop-ask-preserved
loop-ask-preserved g c =
    mapped_more (answer_in (version_text c.args.engine.now.version)) c.args.asks.now c.loop-ask.ask-index c.ask-item.result c.in_ok-found.found c.loop-ask.answers.items c.push.new.self.items
    (map (answer_in (version_text c.args.engine.now.version)) c.args.asks.now) c.loop-ask-test.true c.ask-item.is c.in_ok-found.ensures c.in_ok-push.ensures.items c.loop-ask.invariant

pub returns : goal.returns
returns g c =
    mapped_all (answer_in (version_text c.args.engine.now.version)) c.args.asks.now c.loop-ask.ask-index c.loop-ask.answers.items (map (answer_in (version_text c.args.engine.now.version)) c.args.asks.now)
    c.loop-ask-test.false c.loop-ask.invariant
