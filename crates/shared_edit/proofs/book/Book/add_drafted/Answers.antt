use Rattle.std.proofs.Common.{◌<◌, ◌+◌, rules, arith, subst, ap, ◌∙◌}
use Rattle.gcl_model.specs.Limits.{address_end}
use Rattle.shared_edit.specs.Books.{book_content}
use Rattle.shared_edit.specs.Histories.{is_added, is_refused}
use Rattle.shared_edit.proofs.JournalLemmas.{count-le}
use Rattle.shared_edit.proofs.BookLemmas.{book-added, book-spent, book-same}
use Rattle.shared_edit.proofs.book.Book.add_drafted.Goals as goal
use Rattle.shared_edit.proofs.book.Book.add_drafted.Goals.{in-Ok, in-Err-AddressesSpent, in-Err-NoMemory}

pub rise_added-requires : goal.rise_added-requires
rise_added-requires g c = omega (arith, c.audit.ensures.added, c.self.invariant.added, count-le is_added c.self.inside.journal.items, c.in-Ok.ensures.few)

pub rise_refused-requires : goal.rise_refused-requires
rise_refused-requires g c =
    let s = c.in-Err-AddressesSpent.ensures.spent c.in-Err-AddressesSpent.need c.in-Err-AddressesSpent.seen (search rules) in
    omega (arith, c.self.invariant.refused, count-le is_refused c.self.inside.journal.items, s.5)

pub invariant_of-self : goal.invariant_of-self
invariant_of-self g c =
    let b = book_content c.self.inside.engine c.self.inside.journal.items c.self.inside.added.total c.self.inside.gone.total c.self.inside.refused.total in
    elim c.match-add_to.branch [
      | in-Ok w ↦
          book-same _ _ _ _ _ _ _ _ _ _ (ap (λ s. s.engine) w.self-inside-is) (ap (λ s. s.journal.items) w.self-inside-is ∙ w.in-Ok.ensures.added) (ap (λ s. s.added.total) w.self-inside-is ∙ w.rise_added.ensures.total ∙ ap (λ n. n + 1) c.audit.ensures.added)
          (ap (λ s. s.gone.total) w.self-inside-is ∙ c.audit.ensures.gone) (ap (λ s. s.refused.total) w.self-inside-is)
          (book-added b c.add_to.new.engine c.number.result c.args.draft.name c.args.draft.bytes w.in-Ok.answer c.self.invariant c.requires w.in-Ok.ensures.ok)
      | in-Err-AddressesSpent w ↦
          let s = w.in-Err-AddressesSpent.ensures.spent w.in-Err-AddressesSpent.need w.in-Err-AddressesSpent.seen (search rules) in
          book-same _ _ _ _ _ _ _ _ _ _ (ap (λ s. s.engine) w.self-inside-is ∙ s.3) (ap (λ s. s.journal.items) w.self-inside-is ∙ s.4) (ap (λ s. s.added.total) w.self-inside-is ∙ c.audit.ensures.added)
          (ap (λ s. s.gone.total) w.self-inside-is ∙ c.audit.ensures.gone) (ap (λ s. s.refused.total) w.self-inside-is ∙ w.rise_refused.ensures.total)
          (book-spent b c.number.result c.args.draft.name c.args.draft.bytes c.self.invariant c.requires (subst (λ n. address_end < b.engine.version.next + n) s.0 s.2))
      | in-Err-NoMemory w ↦
          let s = w.in-Err-NoMemory.ensures.no_memory (search rules) in
          book-same _ _ _ _ _ _ _ _ _ _ (ap (λ s. s.engine) w.self-inside-is ∙ s.0) (ap (λ s. s.journal.items) w.self-inside-is ∙ s.1) (ap (λ s. s.added.total) w.self-inside-is ∙ c.audit.ensures.added)
          (ap (λ s. s.gone.total) w.self-inside-is ∙ c.audit.ensures.gone) (ap (λ s. s.refused.total) w.self-inside-is) c.self.invariant
    ]

pub returns-clause-book : goal.returns-clause-book
returns-clause-book g c = invariant_of-self g c
