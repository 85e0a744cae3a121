use Rattle.std.proofs.Common.{◌^◌, [], ◌∷◌, ◌++◌, List, ℕ, Option, None, Some, cond, bytes_eq, unwrap_or, sym, ap, ◌∙◌, subst, arith}
use Rattle.std.specs.Option.{IfSome}
use Rattle.posting_code.specs.Postings.{RiseWithin}
use Rattle.posting_code.proofs.Rising.{rise_push}
use Rattle.shard_build.specs.Groups.{unless_empty}
use Rattle.shard_build.specs.Met.{addresses_of}
use Rattle.shard_build.proofs.NameLists.{found, list_grown}
use Rattle.shard_build.proofs.names.Names.put.Goals as goal

behind_list : (o : Option (List ℕ)) (address : ℕ) → IfSome o (λ list. RiseWithin 0 address list) → RiseWithin 0 address (unwrap_or o [])
behind_list None address behind = tt
behind_list (Some list) address behind = behind

pub put_at-requires : goal.put_at-requires
put_at-requires c =
    let e = c.in_ok-number.ensures in
    let rise = subst (RiseWithin 0 c.args.address) (sym e.list) (behind_list (addresses_of c.args.self.now c.args.token.now) c.args.address c.requires.behind) in
    record {
      within = e.within;
      rising = rise_push 0 c.args.address (2 ^ 56) _ c.args.address rise (omega arith) (omega arith) c.requires.bounded;
    }

pub returns : goal.returns
returns c =
    let e = c.in_ok-number.ensures in
    let mid = c.number_of.new.self in
    record {
      lists = λ cs.
          ap (λ es. unless_empty (unwrap_or (found es cs) [])) c.in_ok-put_at.ensures
          ∙ list_grown mid.entries c.in_ok-number.number c.args.token.now c.args.address cs e.distinct e.within e.name
          ∙ ap (λ o. cond (bytes_eq c.args.token.now cs) (Some (unwrap_or o [] ++ c.args.address ∷ [])) o) (e.lists cs);
    }
