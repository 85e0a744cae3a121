-- A content that is read, or written, piece by piece.
use Rattle.std.proofs.Common.{◌≡◌, ℕ, ◌+◌, ◌≤◌, List, [], ◌++◌, length, take, drop, Option, None, Some, IfSome, Result, Ok, Err, sym, ap, subst, ◌∙◌, arith}
use Rattle.std.proofs.lemmas.List.{append_assoc, take-take, take-append-drop, length-take-le, length-append}
use Rattle.std.proofs.KnownBytes.{Consumes-trans}
use Rattle.std.specs.Io.KnownBytes.{Consumes}
use Rattle.outside.specs.Contents.{Contents, BeginsContent, Loads}
use Rattle.outside.specs.declared.files.Loaded.{Loaded}
use Rattle.outside.specs.declared.files.Loaded.TheVariants.{Whole, Long}
use Rattle.outside_std.specs.Loading.{content_left, Opens}
use Rattle.outside_std.specs.declared.cause.FileFault.{FileFault}

-- a front of what was read
front_read : (a b : Option (List ℕ)) (out more : List ℕ) (most : ℕ) → Consumes a b (out ++ more) → length out ≡ most + 1 → Loads {E = FileFault} (content_left a) [] most (Ok Long) out
front_read None b out more most p is = (is, tt)
front_read (Some bytes) None out more most p is = absurd p
front_read (Some bytes) (Some left) out more most p is = (is, record { rest = more ++ left; is = ap (λ l. Some l) (p ∙ append_assoc out more left) })

-- the last piece is cut if the content is long
pub cut_read : (a b c : Option (List ℕ)) (front piece out : List ℕ) (k count most : ℕ) → Consumes a b front → Consumes b c (take count piece) → k ≤ count → count ≤ length piece →
    length front + k ≡ most + 1 → out ≡ front ++ take k piece → Loads {E = FileFault} (content_left a) [] most (Ok Long) out
cut_read a b c front piece out k count most p q le bound size is =
    let more = drop k (take count piece) in
    let parts : take k piece ++ more ≡ take count piece = ap (λ l. l ++ more) (sym (take-take k count piece le)) ∙ take-append-drop k (take count piece) in
    let whole : out ++ more ≡ front ++ take count piece = ap (λ l. l ++ more) is ∙ append_assoc front (take k piece) more ∙ ap (λ l. front ++ l) parts in
    let taken : length (take k piece) ≡ k = length-take-le k piece (omega arith) in
    let long : length out ≡ most + 1 = ap (λ l. length l) is ∙ length-append front (take k piece) ∙ ap (λ n. length front + n) taken ∙ size in
    front_read a c out more most (subst (λ l. Consumes a c l) (sym whole) (Consumes-trans a b c front (take count piece) p q)) long

-- what is read from a file that was opened under a name is the content of that name
pub opened_content : (told : Option Contents) (name : List ℕ) (left : Option (List ℕ)) (most : ℕ) (result : Result Loaded FileFault) (out : List ℕ) → Opens told name left →
    Loads (content_left left) [] most result out → Loads told name most result out
opened_content None name left most (Ok Whole) out opens loads = (loads.0, tt)
opened_content None name left most (Ok Long) out opens loads = (loads.0, tt)
opened_content None name left most (Err e) out opens loads = tt
opened_content (Some contents) name left most (Ok Whole) out opens loads =
    let same = subst (λ l. IfSome (content_left l) (λ known. known [] ≡ Some out)) opens.left_is loads.1 in (loads.0, opens.content_is ∙ same)
opened_content (Some contents) name left most (Ok Long) out opens loads =
    let begins = subst (λ l. IfSome (content_left l) (λ known. BeginsContent known [] out)) opens.left_is loads.1 in
    (loads.0, record { rest = begins.rest; is = opens.content_is ∙ begins.is })
opened_content (Some contents) name left most (Err e) out opens loads = tt
