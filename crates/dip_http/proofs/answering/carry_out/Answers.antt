use Rattle.dip_http.proofs.CarryLemmas.{game_part, game_whole, letter_part, letter_whole, paper_part, paper_whole, refused_part, refused_whole}
use Rattle.dip_http.proofs.RespondLemmas.{responds_as, responds_written}
use Rattle.dip_http.proofs.answering.carry_out.Goals as goal

pub returns-in-Refuse : goal.returns-in-Refuse
returns-in-Refuse g c = rw c.in-Refuse.is
    (responds_written c.args.map.now g.K.Keeper.book c.args.quiet _ _ _ _ _ c.args.keeper.now c.refuse.result c.refuse.ensures.fault
    (λ s. refused_whole c.args.map.now _ _ c.args.quiet c.args.start.now _ s _ _ c.refuse.result c.refuse.ensures.ok)
    (λ s. refused_part c.args.map.now _ _ c.args.quiet c.args.start.now _ s _ _ c.refuse.result c.refuse.ensures.err c.refuse.ensures.fault))

pub returns-in-Game : goal.returns-in-Game
returns-in-Game g c = rw c.in-Game.is
    (responds_as c.args.map.now g.K.Keeper.book c.args.quiet _ _ c.args.keeper.now c.show_game.new.keeper _ _ _ _ _ _ c.show_game.result
    (λ s t. game_whole c.args.map.now c.in-Game.name.now c.args.quiet c.args.start.now _ s t _ _ c.show_game.result)
    (λ s t. game_part c.args.map.now c.in-Game.name.now c.args.quiet c.args.start.now _ s t _ _ c.show_game.result)
    (λ s t taken. absurd taken) c.show_game.ensures.shows)

pub returns-in-Paper : goal.returns-in-Paper
returns-in-Paper g c =
    let told = c.show_paper.ensures.shows in
    rw c.in-Paper.is
    (responds_as c.args.map.now g.K.Keeper.book c.args.quiet _ _ c.args.keeper.now c.show_paper.new.keeper _ _ _ _ _ _ c.show_paper.result
    (λ s t. paper_whole c.args.map.now c.in-Paper.name.now c.in-Paper.number.now told.0 c.args.quiet c.args.start.now _ s t _ _ c.show_paper.result told.1)
    (λ s t. paper_part c.args.map.now c.in-Paper.name.now c.in-Paper.number.now told.0 c.args.quiet c.args.start.now _ s t _ _ c.show_paper.result told.1)
    (λ s t taken. absurd taken) told.2)

pub returns-in-Letter : goal.returns-in-Letter
returns-in-Letter g c = rw c.in-Letter.is
    (responds_as c.args.map.now g.K.Keeper.book _ _ _ c.args.keeper.now c.take_letter.new.keeper _ _ _ _ _ _ c.take_letter.result
    (λ s t. letter_whole c.args.map.now c.in-Letter.size c.args.quiet c.args.start.now _ s t _ _ c.take_letter.result)
    (λ s t. letter_part c.args.map.now c.in-Letter.size c.args.quiet c.args.start.now _ s t _ _ c.take_letter.result)
    (λ s t taken. taken) c.take_letter.ensures)
