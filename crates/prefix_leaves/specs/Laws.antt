-- What the renamed text is for.
use Rattle.std.specs.Prelude.{◌≡◌, ℕ, List, true}
use Rattle.gcl_model.specs.Texts.{Text}
use Rattle.gcl_model.specs.Forms.{Form}
use Rattle.gcl_model.specs.Meaning.{concordance}
use Rattle.gcl_model.specs.Wide.{wide}
use Rattle.prefix_leaves.specs.Renaming.{renamed, is_apart}

-- of names that are apart, the concordance list over the renamed text is the wide list
abbrev pub NamesThatAreApartDecide : Type 0
NamesThatAreApartDecide = (prefixes : List (List ℕ)) (text : Text) (form : Form) → is_apart prefixes form ≡ true → concordance (renamed prefixes text) form ≡ wide text form
