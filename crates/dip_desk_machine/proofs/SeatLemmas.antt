-- The seats of a new game.
use Rattle.std.proofs.Common.{◌≡◌, List, [], ◌∷◌, ◌++◌, Option, None, Some, refl, ap, append_assoc, sym, ◌∙◌, ℕ}
use Rattle.dip_desk_state.specs.State.{NewSeat}
use Rattle.dip_letters.specs.Notes.{SeatNote}
use Rattle.dip_map.specs.Charts.{Chart}
use Rattle.dip_desk_machine.specs.MasterCommands.{new_seat, new_seats, with_more}

-- what is found, with these in front
abbrev pub with_front : List NewSeat → Option (List NewSeat) → Option (List NewSeat)
with_front front None = None
with_front front (Some more) = Some (front ++ more)

-- one more in front
pub with_front_more : (front : List NewSeat) (seat : NewSeat) (rest : Option (List NewSeat)) → with_front front (with_more (Some seat) rest) ≡ with_front (front ++ seat ∷ []) rest
with_front_more front seat None = refl
with_front_more front seat (Some more) = let same : front ++ seat ∷ more ≡ (front ++ seat ∷ []) ++ more = sym (append_assoc front (seat ∷ []) more) in ap (λ (l : List NewSeat). Some l) same

-- a seat whose power isn't on the map
pub none_found : (m : Chart) (game : List ℕ) (front : List NewSeat) (rest more : List SeatNote) (seat : SeatNote) (all : Option (List NewSeat))
    → rest ≡ seat ∷ more → None ≡ new_seat m game seat → with_front front (new_seats m game rest) ≡ all → None ≡ all
none_found m game front rest more seat all is none before =
    let next : with_front front (with_more (new_seat m game seat) (new_seats m game more)) ≡ all = rw is at before in
    rw (← none) at next

-- a seat whose power is
pub one_found : (m : Chart) (game : List ℕ) (front : List NewSeat) (rest more : List SeatNote) (seat : SeatNote) (found : NewSeat) (all : Option (List NewSeat))
    → rest ≡ seat ∷ more → Some found ≡ new_seat m game seat → with_front front (new_seats m game rest) ≡ all
    → with_front (front ++ found ∷ []) (new_seats m game more) ≡ all
one_found m game front rest more seat found all is some before =
    let next : with_front front (with_more (new_seat m game seat) (new_seats m game more)) ≡ all = rw is at before in
    let with_it : with_front front (with_more (Some found) (new_seats m game more)) ≡ all = rw (← some) at next in
    sym (with_front_more front found (new_seats m game more)) ∙ with_it
