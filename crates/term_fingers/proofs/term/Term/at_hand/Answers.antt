use Rattle.std.proofs.Common.{◌≡◌, Some, subst}
use Rattle.std.specs.Option.{IfSome}
use Rattle.gcl_model.specs.Texts.{places}
use Rattle.index_shard.specs.Searched.{nearest}
use Rattle.live_version.specs.Contents.{live_of}
use Rattle.term_fingers.proofs.term.Term.at_hand.Goals as goal

pub returns-in-Some : goal.returns-in-Some
returns-in-Some g c =
    subst (λ o. IfSome o (λ p. Some p ≡ nearest c.args.direction (places (live_of g.J.Naming.version.slots) c.args.self.now.bytes.now) c.args.k)) c.in-Some.is c.at_hand_in_block.ensures
