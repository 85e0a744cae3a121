use Rattle.std.proofs.Common.{◌+◌, rules, arith, ap, ◌∙◌}
use Rattle.shared_edit.specs.Books.{book_content}
use Rattle.shared_edit.specs.Histories.{is_gone, is_refused}
use Rattle.shared_edit.proofs.JournalLemmas.{count-le}
use Rattle.shared_edit.proofs.BookLemmas.{book-gone, book-not_live, book-same}
use Rattle.shared_edit.proofs.book.Book.delete.Goals as goal
use Rattle.shared_edit.proofs.book.Book.delete.Goals.{in-Ok, in-Err-NotLive, in-Err-NoMemory}

pub rise_gone-requires : goal.rise_gone-requires
rise_gone-requires g c = omega (arith, c.audit.ensures.gone, c.self.invariant.gone, count-le is_gone c.self.inside.journal.items, c.in-Ok.ensures.few)

pub rise_refused-requires : goal.rise_refused-requires
rise_refused-requires g c =
    let s = c.in-Err-NotLive.ensures.not_live c.in-Err-NotLive.id c.in-Err-NotLive.seen (search rules) in
    omega (arith, c.self.invariant.refused, count-le is_refused c.self.inside.journal.items, s.5)

pub invariant_of-self : goal.invariant_of-self
invariant_of-self g c =
    let b = book_content c.self.inside.engine c.self.inside.journal.items c.self.inside.added.total c.self.inside.gone.total c.self.inside.refused.total in
    elim c.match-delete_from.branch [
      | in-Ok w ↦
          book-same _ _ _ _ _ _ _ _ _ _ (ap (λ s. s.engine) w.self-inside-is) (ap (λ s. s.journal.items) w.self-inside-is ∙ w.in-Ok.ensures.gone) (ap (λ s. s.added.total) w.self-inside-is ∙ c.audit.ensures.added)
          (ap (λ s. s.gone.total) w.self-inside-is ∙ w.rise_gone.ensures.total ∙ ap (λ n. n + 1) c.audit.ensures.gone) (ap (λ s. s.refused.total) w.self-inside-is)
          (book-gone b c.delete_from.new.engine c.number.result c.args.id.0 c.self.invariant w.in-Ok.ensures.ok.change)
      | in-Err-NotLive w ↦
          let s = w.in-Err-NotLive.ensures.not_live w.in-Err-NotLive.id w.in-Err-NotLive.seen (search rules) in
          book-same _ _ _ _ _ _ _ _ _ _ (ap (λ s. s.engine) w.self-inside-is ∙ s.3) (ap (λ s. s.journal.items) w.self-inside-is ∙ s.4) (ap (λ s. s.added.total) w.self-inside-is ∙ c.audit.ensures.added)
          (ap (λ s. s.gone.total) w.self-inside-is ∙ c.audit.ensures.gone) (ap (λ s. s.refused.total) w.self-inside-is ∙ w.rise_refused.ensures.total)
          (book-not_live b c.number.result c.args.id.0 c.self.invariant s.2)
      | in-Err-NoMemory w ↦
          let s = w.in-Err-NoMemory.ensures.no_memory (search rules) in
          book-same _ _ _ _ _ _ _ _ _ _ (ap (λ s. s.engine) w.self-inside-is ∙ s.0) (ap (λ s. s.journal.items) w.self-inside-is ∙ s.1) (ap (λ s. s.added.total) w.self-inside-is ∙ c.audit.ensures.added)
          (ap (λ s. s.gone.total) w.self-inside-is ∙ c.audit.ensures.gone) (ap (λ s. s.refused.total) w.self-inside-is) c.self.invariant
    ]

pub returns-clause-book : goal.returns-clause-book
returns-clause-book g c = invariant_of-self g c
