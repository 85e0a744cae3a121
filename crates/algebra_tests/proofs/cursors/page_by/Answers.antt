use Rattle.algebra_tests.proofs.cursors.page_by.Goals as goal

pub page-requires-clause-at : goal.page-requires-clause-at
page-requires-clause-at g c = c.in_ok-cursor.ensures.at c.args.asked.now.text.now c.args.page.from
