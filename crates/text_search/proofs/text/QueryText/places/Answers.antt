use Rattle.std.proofs.Common.{◌∙◌, ap, sym, subst}
use Rattle.gcl_model.specs.Texts.{IsText, places}
use Rattle.text_search.specs.FileTexts.{file_text}
use Rattle.text_search.specs.Tables.{AreClimbing, tokens_in}
use Rattle.text_search.proofs.FileLemmas.{kept_places, named_is_text, file_is_text, places_climb}
use Rattle.text_search.proofs.text.QueryText.places.Goals as goal

pub returns-clause-places : goal.returns-clause-places
returns-clause-places c =
    let q = c.self.inside in
    c.places.ensures ∙ kept_places q.bytes.now q.next q.table c.args.token.now c.self.invariant ∙ ap (λ text. places text.words c.args.token.now) c.self.view_is

pub returns-clause-climbing : goal.returns-clause-climbing
returns-clause-climbing c =
    let q = c.self.inside in
    let text = named_is_text (tokens_in q.table) (file_text q.bytes.now) (file_is_text q.bytes.now c.self.invariant.fits) in
    subst AreClimbing (sym (c.places.ensures ∙ kept_places q.bytes.now q.next q.table c.args.token.now c.self.invariant)) (places_climb _ _ _ c.args.token.now text.rising)

pub returns-clause-sound : goal.returns-clause-sound
returns-clause-sound c =
    let q = c.self.inside in subst IsText c.self.view_is (named_is_text (tokens_in q.table) (file_text q.bytes.now) (file_is_text q.bytes.now c.self.invariant.fits))
