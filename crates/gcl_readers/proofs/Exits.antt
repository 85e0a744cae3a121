-- What a clause says of a result if a `?` or a `return` ends a function with None.
use Rattle.std.proofs.Common.{◌≡◌, List, Option, Some, None, sym, subst}
use Rattle.std.specs.Option.{IfSome}
use Rattle.gcl_model.specs.Extents.{Extent}
use Rattle.gcl_model.specs.Texts.{Text}
use Rattle.gcl_model.specs.Forms.{Form, Forms, both}
use Rattle.gcl_model.specs.FormOf.{containment_form}
use Rattle.gcl_model.specs.declared.containment.Containment.{Containment}
use Rattle.gcl_model.specs.declared.containment.Containment.TheVariants.{Containing, ContainedIn, NotContaining, NotContainedIn}
use Rattle.gcl_readers.specs.declared.front.Place.{Place}
use Rattle.gcl_readers.specs.declared.front.Front.TheVariants.{End}
use Rattle.gcl_readers.specs.Fronts.{front_at}
use Rattle.gcl_readers.specs.Standing.{Tell}

-- of None nothing is said
pub none_if : {X : Type 0} (P : X → Type 0) (o : Option X) → o ≡ None → IfSome o P
none_if P None none = tt
none_if P (Some x) none = absurd (cc none)

-- if "both of" has no answer, the readers of its operands owe nothing
pub both_asks_none : (text : Text) (forms : Forms) (places : List Place) (o : Option Extent) → o ≡ None → Tell text (both forms) (front_at o) places
both_asks_none text forms places None none = tt
both_asks_none text forms places (Some x) none = absurd (cc none)

end_tells : (containment : Containment) (text : Text) (a b : Form) (places : List Place) → Tell text (containment_form containment a b) End places
end_tells Containing text a b places = tt
end_tells ContainedIn text a b places = tt
end_tells NotContaining text a b places = tt
end_tells NotContainedIn text a b places = tt

-- nor those of a containment
pub contain_none : (containment : Containment) (text : Text) (e a b : Form) → e ≡ containment_form containment a b → (places : List Place) (o : Option Extent) → o ≡ None → Tell text e (front_at o) places
contain_none containment text e a b is places None none = subst (λ f. Tell text f End places) (sym is) (end_tells containment text a b places)
contain_none containment text e a b is places (Some x) none = absurd (cc none)
