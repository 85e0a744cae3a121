-- What a later version of one history has of an earlier one's files: some of them, and others behind.
use Rattle.std.proofs.Common.{◌≡◌, ◌⊎◌, ℕ, ◌+◌, ◌<◌, ◌≤◌, Bool, true, not, ◌&&◌, ◌==◌, List, [], ◌∷◌, ◌++◌, filter, refl, sym, ap, ◌∙◌, subst, arith, append_assoc, append-nil, inl, inr}
use Rattle.std.specs.List.{AllByRecursion}
use Rattle.std.proofs.lemmas.List.{same_from_push}
use Rattle.std.proofs.lemmas.List.Elements.{filter-append}
use Rattle.gcl_model.specs.Collections.{Collection, File, with_file, without_file}
use Rattle.gcl_model.specs.Steps.{IsStep}
use Rattle.gcl_model.proofs.Lists.{all_append, all_kept, filter_all, filter_twice}
use Rattle.live_version.specs.Contents.{VersionContent}
use Rattle.live_version.specs.StandsFor.{StandsFor}
use Rattle.live_version.proofs.ChangeLaw.{stands_for_one}
use Rattle.manifest_publish.specs.Histories.{Follow, IsLatest, IsLawful, IsNext}

-- d came later than c: of c's files some are left, and all others lie behind c
pub record IsLater (c d : Collection) : Type 0 where
  pub left : File → Bool
  pub new : List File
  pub files : d.files ≡ filter left c.files ++ new
  pub behind : AllByRecursion (λ file. c.next ≤ file.base) new
  pub next : c.next ≤ d.next
  pub next_id : c.next_id ≤ d.next_id

later-self : (c : Collection) → IsLater c c
later-self c = record {
  left = λ file. true;
  new = [];
  files = sym (append-nil (filter (λ file. true) c.files) ∙ filter_all c.files);
  behind = tt;
  next = omega arith;
  next_id = omega arith;
}

later-added : (c d : Collection) (name : List ℕ) (tokens : List (List ℕ)) → IsLater c d → IsLater c (with_file d name tokens)
later-added c d name tokens h =
    let file : File = record { id = d.next_id; name = name; base = d.next; tokens = tokens } in
    let next = h.next in
    let next_id = h.next_id in
    record {
      left = h.left;
      new = h.new ++ file ∷ [];
      files = ap (λ fs. fs ++ file ∷ []) h.files ∙ append_assoc (filter h.left c.files) h.new (file ∷ []);
      behind = all_append (λ f. c.next ≤ f.base) h.new (file ∷ []) h.behind (next, tt);
      next = omega arith;
      next_id = omega arith;
    }

later-deleted : (c d : Collection) (id : ℕ) → IsLater c d → IsLater c (without_file d id)
later-deleted c d id h =
    let keep : File → Bool = λ file. not (file.id == id) in
    record {
      left = λ file. keep file && h.left file;
      new = filter keep h.new;
      files = ap (filter keep) h.files ∙ filter-append keep (filter h.left c.files) h.new
          ∙ ap (λ fs. fs ++ filter keep h.new) (sym (filter_twice keep h.left (λ file. keep file && h.left file) c.files (λ file. refl)));
      behind = all_kept (λ f. c.next ≤ f.base) keep h.new h.behind;
      next = h.next;
      next_id = h.next_id;
    }

later-step : (c d d' : Collection) → 0 < c.next_id → IsLater c d → IsStep d d' → IsLater c d'
later-step c d d' some h (inl (name, tokens, can, same)) = subst (IsLater c) (sym same) (later-added c d name tokens h)
later-step c d d' some h (inr (inl (id, has, same))) = subst (IsLater c) (sym same) (later-deleted c d id h)
later-step c d d' some h (inr (inr opens)) = let none : d.next_id ≡ 0 = opens.empty in let le = h.next_id in absurd (omega arith)

later-next : (c d : Collection) (u x : VersionContent) → 0 < c.next_id → IsLater c d → StandsFor u d → IsNext u x → (d' : Collection) × StandsFor x d' × IsLater c d'
later-next c d u x some h s next =
    let same : d ≡ next.before = stands_for_one u d next.before s next.from in
    let from : IsLater c next.before = subst (IsLater c) same h in
    (next.after, next.to, by_step next.step from)
  where
    by_step : ((x.edition ≡ u.edition + 1) × IsStep next.before next.after) ⊎ ((x.edition ≡ u.edition) × (next.after ≡ next.before)) → IsLater c next.before → IsLater c next.after
    by_step (inl (edition, step)) from = later-step c next.before next.after some from step
    by_step (inr (edition, same)) from = subst (IsLater c) (sym same) from

-- the last of the version and those behind it
abbrev EndsAt : VersionContent → List VersionContent → VersionContent → Type 0
EndsAt u [] w = w ≡ u
EndsAt u (x ∷ xs) w = EndsAt x xs w

walk : (c : Collection) → 0 < c.next_id → (u : VersionContent) (d : Collection) → StandsFor u d → IsLater c d → (rest : List VersionContent) → Follow u rest → (w : VersionContent) → EndsAt u rest w
    → (d' : Collection) × StandsFor w d' × IsLater c d'
walk c some u d s h [] follow w end = subst (λ (v : VersionContent). (d' : Collection) × StandsFor v d' × IsLater c d') (sym end) (d, s, h)
walk c some u d s h (x ∷ xs) follow w end =
    let one = later-next c d u x some h s follow.0 in
    walk c some x one.0 one.1 one.2 xs follow.1 w end

follow_from : (x : VersionContent) (before : List VersionContent) (v : VersionContent) (rest : List VersionContent) → Follow x ((before ++ v ∷ []) ++ rest) → Follow v rest
follow_from x [] v rest h = h.1
follow_from x (y ∷ ys) v rest h = follow_from y ys v rest h.1

follow_behind : (before : List VersionContent) (v : VersionContent) (rest : List VersionContent) → IsLawful ((before ++ v ∷ []) ++ rest) → Follow v rest
follow_behind [] v rest h = h.1
follow_behind (x ∷ xs) v rest h = follow_from x xs v rest h.1

follow_front : (u : VersionContent) (xs ys : List VersionContent) → Follow u (xs ++ ys) → Follow u xs
follow_front u [] ys h = tt
follow_front u (x ∷ xs) ys h = (h.0, follow_front x xs ys h.1)

lawful_front : (before : List VersionContent) (v : VersionContent) (rest : List VersionContent) → IsLawful ((before ++ v ∷ []) ++ rest) → IsLawful (before ++ v ∷ [])
lawful_front [] v rest h = (h.0, tt)
lawful_front (x ∷ xs) v rest h = (h.0, follow_front x (xs ++ v ∷ []) rest h.1)

-- a beginning of a lawful history is lawful, if it has a version
pub lawful-front : (list rest : List VersionContent) (v : VersionContent) → IsLawful (list ++ rest) → IsLatest list v → IsLawful list
lawful-front list rest v lawful latest =
    subst IsLawful (sym latest.1) (lawful_front latest.0 v rest (subst (λ (l : List VersionContent). IsLawful (l ++ rest)) latest.1 lawful))

ends_at : (before : List VersionContent) (v : VersionContent) (rest : List VersionContent) (w : VersionContent) → IsLatest ((before ++ v ∷ []) ++ rest) w → EndsAt v rest w
ends_at before v [] w latest = sym (same_from_push before latest.0 v w (sym (append-nil (before ++ v ∷ [])) ∙ latest.1)).1
ends_at before v (x ∷ xs) w latest = ends_at (before ++ v ∷ []) x xs w (subst (λ (h : List VersionContent). IsLatest h w) (sym (append_assoc (before ++ v ∷ []) (x ∷ []) xs)) latest)

-- the last version of a history stands for what came later than what the last version of a beginning stands for
pub survivors : (list rest : List VersionContent) (v w : VersionContent) (c : Collection) → IsLawful (list ++ rest) → IsLatest list v → IsLatest (list ++ rest) w → StandsFor v c → 0 < c.next_id
    → (d : Collection) × StandsFor w d × IsLater c d
survivors list rest v w c lawful latest last s some =
    let h : IsLawful ((latest.0 ++ v ∷ []) ++ rest) = subst (λ (l : List VersionContent). IsLawful (l ++ rest)) latest.1 lawful in
    let end = ends_at latest.0 v rest w (subst (λ (l : List VersionContent). IsLatest (l ++ rest) w) latest.1 last) in
    walk c some v c s (later-self c) rest (follow_behind latest.0 v rest h) w end
