use Rattle.std.proofs.Common.{◌≡◌, rules, subst, arith}
use Rattle.gcl_model.specs.FormOf.{form_of}
use Rattle.gcl_model.specs.declared.expr.Expr.{Expr}
use Rattle.gcl_readers.specs.Standing.{Stands, start_at}
use Rattle.near_search.specs.inner.Windows.{text_of_part}
use Rattle.near_search.proofs.window_pages.Part.read.Goals as goal

pub page_by-requires-in-Fresh-clause-is : goal.page_by-requires-in-Fresh-clause-is
page_by-requires-in-Fresh-clause-is g c =
    let same : c.deref.result.now ≡ c.args.self.now.expr.value = search rules in
    let begins : start_at c.in_ok-readers-in-Fresh.readers ≡ 0 = c.in_ok-readers-in-Fresh.ensures.left in
    record {
      last = c.requires.is.last;
      well_formed = c.requires.is.well_formed;
      below = c.requires.is.below;
      standing = (
        subst (λ (e : Expr). Stands (text_of_part c.args.self.now) (form_of e) c.in_ok-readers-in-Fresh.readers) same (c.in_ok-readers-in-Fresh.ensures.stands (text_of_part c.args.self.now)),
        omega arith,
      );
    }
