use Rattle.std.proofs.Common.{◌≡◌, ◌<◌, ◌++◌, List, Option, length, ap, refl, subst, arith, rules, length-append}
use Rattle.std.specs.Prelude.{IfSome}
use Rattle.gcl_model.proofs.Cases.{on_err}
use Rattle.gcl_model.specs.Extents.{Extent}
use Rattle.answer_text.specs.Puts.{members_text}
use Rattle.answer_text.proofs.PageLemmas.{members_on}
use Rattle.answer_text.proofs.PutLemmas.{all_put, more_first, none_first, part_all, part_so_far}
use Rattle.answer_text.proofs.CauseLemmas.{cause_done, cause_memory, cause_passed, counts_memory, counts_passed}
use Rattle.answer_text.proofs.pages.put_members.Goals as goal

pub loop-page-init : goal.loop-page-init
loop-page-init g c = record {
  puts = none_first members_text members_on (g.K.Sink.written c.args.sink.now) c.args.out.now.items c.args.listing.now refl;
  few = search rules;
  later = search rules;
  same = search rules;
}

pub returns-in_err-page-clause-part : goal.returns-in_err-page-clause-part
returns-in_err-page-clause-part g c = on_err _ c.from_residual.result
    (part_so_far members_text members_on _ _ c.args.out.now.items c.loop-page.out.items c.args.listing.now c.loop-page.listing c.loop-page.count c.loop-page.invariant.puts)

pub returns-in_err-put_page-clause-part : goal.returns-in_err-put_page-clause-part
returns-in_err-put_page-clause-part g c =
    let here = subst (λ (o : Option (List Extent)). IfSome o (λ p. (c.loop-page.listing ≡ p ++ c.next_page.new.self) × (0 < length p))) c.in-Some.is c.in_ok-page.ensures.some in
    on_err _ c.from_residual-in_err-put_page.result (part_all members_text members_on _ _ _ c.args.out.now.items c.loop-page.out.items c.args.listing.now c.loop-page.listing c.in-Some.page c.next_page.new.self c.loop-page.count here.0 c.loop-page.invariant.puts c.in_err-put_page.ensures.part)

pub loop-page-preserved : goal.loop-page-preserved
loop-page-preserved g c =
    let here = subst (λ (o : Option (List Extent)). IfSome o (λ p. (c.loop-page.listing ≡ p ++ c.next_page.new.self) × (0 < length p))) c.in-Some.is c.in_ok-page.ensures.some in
    record {
      puts = more_first members_text members_on _ _ _ c.args.out.now.items c.loop-page.out.items c.put_page.new.out.items c.args.listing.now c.loop-page.listing c.in-Some.page c.next_page.new.self c.loop-page.count _ here.0 (search rules)
          c.loop-page.invariant.puts c.in_ok-put_page.ensures.puts;
      few = let before = ap length here.0 in let size = c.len.ensures in omega (arith, c.loop-page.invariant.few, length-append c.in-Some.page c.next_page.new.self, before, size);
      later = search rules;
      same = search rules;
    }

pub returns-clause-puts : goal.returns-clause-puts
returns-clause-puts g c = (all_put members_text members_on _ _ c.args.out.now.items c.loop-page.out.items c.args.listing.now c.loop-page.listing c.loop-page.count (search rules) c.loop-page.invariant.puts).0

pub returns-clause-count : goal.returns-clause-count
returns-clause-count g c = (all_put members_text members_on _ _ c.args.out.now.items c.loop-page.out.items c.args.listing.now c.loop-page.listing c.loop-page.count (search rules) c.loop-page.invariant.puts).1

pub returns-in_err-page-clause-cause : goal.returns-in_err-page-clause-cause
returns-in_err-page-clause-cause g c = cause_memory c.from_residual.result (g.K.Sink.faults c.args.sink.now) (g.K.Sink.faults c.loop-page.sink) c.loop-page.invariant.same c.from_residual.ensures.1

pub returns-in_err-page-clause-counts : goal.returns-in_err-page-clause-counts
returns-in_err-page-clause-counts g c = counts_memory c.from_residual.result (g.K.Sink.faults c.args.sink.now) (g.K.Sink.faults c.loop-page.sink) c.loop-page.invariant.same c.from_residual.ensures.1

pub returns-in_err-put_page-clause-cause : goal.returns-in_err-put_page-clause-cause
returns-in_err-put_page-clause-cause g c = cause_passed c.from_residual-in_err-put_page.result c.in_err-put_page.field-0.0 (g.K.Sink.faults c.args.sink.now) (g.K.Sink.faults c.loop-page.sink) (g.K.Sink.faults c.put_page.new.sink) c.loop-page.invariant.same c.from_residual-in_err-put_page.ensures.1 c.in_err-put_page.ensures.cause

pub returns-in_err-put_page-clause-counts : goal.returns-in_err-put_page-clause-counts
returns-in_err-put_page-clause-counts g c = counts_passed Unit c.from_residual-in_err-put_page.result c.in_err-put_page.field-0.0 (g.K.Sink.faults c.args.sink.now) (g.K.Sink.faults c.loop-page.sink) (g.K.Sink.faults c.put_page.new.sink) c.loop-page.invariant.same c.from_residual-in_err-put_page.ensures.1 c.in_err-put_page.ensures.counts

pub returns-clause-cause : goal.returns-clause-cause
returns-clause-cause g c = cause_done c.loop-page.count (g.K.Sink.faults c.args.sink.now) (g.K.Sink.faults c.loop-page.sink) c.loop-page.invariant.same

pub returns-clause-counts : goal.returns-clause-counts
returns-clause-counts g c = c.loop-page.invariant.same
