use Rattle.std.proofs.Common.{◌≡◌, ◌<◌, ◌≤◌, ◌++◌, [], ◌∷◌, length, refl, sym, ap, subst, arith, rules}
use Rattle.std.proofs.lemmas.Result.{IfOk-weaker}
use Rattle.gcl_model.specs.Forms.{width}
use Rattle.gcl_parser.specs.Scanned.{shown}
use Rattle.gcl_parser.specs.Parsed.{IsParsed, IsBracketParsed}
use Rattle.gcl_parser.specs.Grammar.{single}
use Rattle.gcl_parser.proofs.Growing.{no_value, Chained, chain_starts, chain_goes_on, chain_ends, chain_of_one, query_starts, query_goes_on, query_can, single_read, bracket_read, bracket_closed, not_at_end, bracket_ends}
use Rattle.gcl_parser.proofs.read.+read.Goals as goal

pub bracketed-unreachable-requires : goal.bracketed-unreachable-requires
bracketed-unreachable-requires t c =
    let text = c.args.text.now in
    let inside = c.in_ok-inside.inside in
    not_at_end text inside.end (bracket_closed text c.args.at inside c.requires.can c.in_ok-inside.ensures) c.in_default.ensures.none

pub bracketed-returns : goal.bracketed-returns
bracketed-returns t c =
    let text = c.args.text.now in
    let inside = c.in_ok-inside.inside in
    let close = c.in-Some.close in
    bracket_ends text c.args.at inside record { expr = inside.expr; end = close.end } close c.requires.can c.in_ok-inside.ensures c.in-Some.ensures.some refl refl

pub chain-returns-in_default : goal.chain-returns-in_default
chain-returns-in_default t c =
    chain_of_one c.args.joint c.args.text.now c.args.at c.in_ok-first.first c.in_ok-first.ensures c.in_default.ensures.none

pub chain-loop-members-init : goal.chain-loop-members-init
chain-loop-members-init t c =
    let first = c.in_ok-first.first in
    let starts = chain_starts c.args.joint c.args.text.now c.args.at c.in-Some.next first c.requires.can c.in_ok-first.ensures c.in-Some.ensures.next c.in-Some.ensures.later c.in-Some.ensures.within in
    let items : c.push.new.self.items ≡ first.expr ∷ [] = search (rules, c.in_ok-push.ensures.items, c.new-members.ensures.items) in
    subst (λ exprs. Chained c.args.joint c.args.text.now c.args.at c.in-Some.next exprs) (sym items) starts

pub chain-returns-in-None : goal.chain-returns-in-None
chain-returns-in-None t c =
    let member = c.in_ok-member.member in
    chain_ends c.args.joint c.args.text.now c.args.at c.loop-members.next c.loop-members.members.items member record { expr = c.chain_node.result; end = member.end }
    c.loop-members.invariant c.in_ok-member.ensures c.in-None.ensures.none (search (rules, c.chain_node.ensures, c.in_ok-push-2.ensures.items)) refl

pub chain-loop-members-preserved : goal.chain-loop-members-preserved
chain-loop-members-preserved t c =
    let member = c.in_ok-member.member in
    let next = c.loop-members.next in
    let before = c.loop-members.members.items in
    let grows = chain_goes_on c.args.joint c.args.text.now c.args.at next c.in-Some-joined.place before member c.requires.can c.loop-members.invariant c.in_ok-member.ensures
    c.in-Some-joined.ensures.next c.in-Some-joined.ensures.later c.in-Some-joined.ensures.within in
    let items : c.push-in-loop-members.new.self.items ≡ before ++ member.expr ∷ [] = c.in_ok-push-2.ensures.items in
    subst (λ exprs. Chained c.args.joint c.args.text.now c.args.at c.in-Some-joined.place exprs) (sym items) grows

pub operand-returns-in_ok-quoted_node-in-Quoted : goal.operand-returns-in_ok-quoted_node-in-Quoted
operand-returns-in_ok-quoted_node-in-Quoted t c =
    let text = c.args.text.now in
    let placed = c.in-Some.placed in
    single_read text c.args.at placed _ record { expr = c.in_ok-quoted_node-in-Quoted.field-0; end = placed.end } c.in-Some.ensures.some (ap (λ token. shown text token) c.in-Quoted.is)
    c.in_ok-quoted_node-in-Quoted.ensures refl

pub operand-returns-in-Width : goal.operand-returns-in-Width
operand-returns-in-Width t c =
    let text = c.args.text.now in
    let placed = c.in-Some.placed in
    single_read text c.args.at placed (width c.in-Width.width) record { expr = c.width_node.result; end = placed.end } c.in-Some.ensures.some
    (ap (λ token. shown text token) c.in-Width.is) c.width_node.ensures refl

pub operand-returns-in-Open : goal.operand-returns-in-Open
operand-returns-in-Open t c =
    let text = c.args.text.now in
    let placed = c.in-Some.placed in
    IfOk-weaker c.bracketed.result (λ parsed. IsBracketParsed text placed.end parsed) (λ parsed. IsParsed single text c.args.at parsed)
    (λ parsed inside. bracket_read text c.args.at placed parsed c.in-Some.ensures.some c.in-Open.is inside) c.bracketed.ensures

pub query-loop-containment-init : goal.query-loop-containment-init
query-loop-containment-init t c = query_starts c.args.text.now c.args.at c.in_ok-whole.whole c.in_ok-whole.ensures

pub query-right_side-requires : goal.query-right_side-requires
query-right_side-requires t c =
    let so_far = c.loop-containment.invariant in
    let whole = c.loop-containment.whole in
    let later : c.args.at < whole.end = so_far.later in
    let place : whole.end < c.in-Some.next = c.in-Some.ensures.later in
    let within : c.in-Some.next ≤ length c.args.text.now = c.in-Some.ensures.within in
    (omega arith, (within, query_can c.args.text.now c.args.at c.in-Some.next c.in-Some.containment whole c.requires.can so_far c.in-Some.ensures.next))

pub query-loop-containment-preserved : goal.query-loop-containment-preserved
query-loop-containment-preserved t c =
    let part = c.in_ok-part.part in
    query_goes_on c.args.text.now c.args.at c.in-Some.next c.in-Some.containment c.loop-containment.whole part c.in_ok-whole-2.whole
    c.loop-containment.invariant c.in-Some.ensures.next c.in-Some.ensures.later c.in_ok-part.ensures c.in_ok-whole-2.ensures.form c.in_ok-whole-2.ensures.end

pub operand-returns-in_ok-prefix_node-in-Prefix : goal.operand-returns-in_ok-prefix_node-in-Prefix
operand-returns-in_ok-prefix_node-in-Prefix t c =
    let text = c.args.text.now in
    let placed = c.in-Some.placed in
    single_read text c.args.at placed _ record { expr = c.in_ok-prefix_node-in-Prefix.field-0; end = placed.end } c.in-Some.ensures.some (ap (λ token. shown text token) c.in-Prefix.is)
    c.in_ok-prefix_node-in-Prefix.ensures refl

pub query-loop-containment-smaller : goal.query-loop-containment-smaller
query-loop-containment-smaller t c =
    let end = c.in_ok-whole-2.ensures.end in
    let later = c.in_ok-part.ensures.later in
    let within = c.in_ok-part.ensures.within in
    let next = c.in-Some.ensures.later in
    omega (arith, end, later, within, next)

pub query-returns-in_err-whole : goal.query-returns-in_err-whole
query-returns-in_err-whole t c = no_value _ c.from_residual.result _ c.from_residual.ensures.1

pub query-returns-in_err-part : goal.query-returns-in_err-part
query-returns-in_err-part t c = no_value _ c.from_residual-in_err-part.result _ c.from_residual-in_err-part.ensures.1

pub query-returns-in_err-whole-2 : goal.query-returns-in_err-whole-2
query-returns-in_err-whole-2 t c = no_value _ c.from_residual-in_err-whole-2.result _ c.from_residual-in_err-whole-2.ensures.1

pub chain-returns-in_err-first : goal.chain-returns-in_err-first
chain-returns-in_err-first t c = no_value _ c.from_residual.result _ c.from_residual.ensures.1

pub chain-returns-in_err-push : goal.chain-returns-in_err-push
chain-returns-in_err-push t c = no_value _ c.from_residual-in_err-push.result _ c.from_residual-in_err-push.ensures.1

pub chain-returns-in_err-member : goal.chain-returns-in_err-member
chain-returns-in_err-member t c = no_value _ c.from_residual-in_err-member.result _ c.from_residual-in_err-member.ensures.1

pub chain-returns-in_err-push-2 : goal.chain-returns-in_err-push-2
chain-returns-in_err-push-2 t c = no_value _ c.from_residual-in_err-push-2.result _ c.from_residual-in_err-push-2.ensures.1

pub bracketed-returns-in_err-inside : goal.bracketed-returns-in_err-inside
bracketed-returns-in_err-inside t c = no_value _ c.from_residual.result _ c.from_residual.ensures.1
