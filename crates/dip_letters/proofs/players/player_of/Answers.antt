use Rattle.std.proofs.Common.{codes}
use Rattle.dip_letters.specs.Reading.{player_at}
use Rattle.dip_letters.specs.Views.{player_request}
use Rattle.dip_letters.specs.declared.letters.PlayerCommand.TheVariants.{Show, Withdraw}
use Rattle.dip_letters.proofs.ChoiceLemmas.{said_by_either, said_plainly}
use Rattle.dip_letters.proofs.players.player_of.Goals as goal

pub returns : goal.returns
unfolding player_at
returns c =
    let withdraw = said_plainly player_request (codes "WITHDRAW") Withdraw c.args.line.now c.args.body.now c.plain_of.result c.plain_of.ensures in
    let show = said_plainly player_request (codes "SHOW") Show c.args.line.now c.args.body.now c.plain_of-2.result c.plain_of-2.ensures in
    let two = said_by_either player_request _ _ _ _ _ c.or.ensures c.orders_of.ensures withdraw in
    let three = said_by_either player_request _ _ _ _ _ c.or-2.ensures two c.press_of.ensures in
    let four = said_by_either player_request _ _ _ _ _ c.or-3.ensures three c.press_of-2.ensures in
    let five = said_by_either player_request _ _ _ _ _ c.or-4.ensures four c.vote_of.ensures in
    let six = said_by_either player_request _ _ _ _ _ c.or-5.ensures five c.vote_for_of.ensures in
    let seven = said_by_either player_request _ _ _ _ _ c.or-6.ensures six show in
    said_by_either player_request _ _ _ _ _ c.or-7.ensures seven c.inbox_of.ensures
