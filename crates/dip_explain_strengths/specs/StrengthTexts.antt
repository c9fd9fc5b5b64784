-- A strength, told: its number, the units that it counts, and those that it leaves out.
use Rattle.std.specs.Prelude.{ℕ, Bool, ◌==◌, ◌&&◌, not, List, [], ◌++◌, codes, flat_map, if◌then◌else◌}
use Rattle.std.specs.Fmt.{decimal}
use Rattle.dip_map.specs.Charts.{Chart}
use Rattle.dip_decide_rules.specs.declared.decisions.Decision.TheVariants.{Move, Support}
use Rattle.dip_decide_rules.specs.Movement.{attack, has_move, has_path, head_to_head, opposition, prevent}
use Rattle.dip_decide_rules.specs.Steps.{is_unknown}
use Rattle.dip_explain_strengths.specs.Matters.{Matter, code, here, others, there, unit_in}
use Rattle.dip_explain_strengths.specs.Strengths.{backers, backers_against, is_free, left_out, left_out_against}

-- a strength, bare where it is the same at both completions: else it is so much at least, or at most
unfoldable pub strength_text : Bool → ℕ → ℕ → List ℕ
strength_text least here there = (if here == there then [] else if least then codes "at least " else codes "at most ") ++ decimal here

-- a unit whose support counts
unfoldable pub backer_text : Matter → ℕ → List ℕ
backer_text c h = unit_in c h ++ (if is_unknown (c.known (Support h)) then codes " if uncut" else [])

-- why a support that isn't given doesn't count
unfoldable pub lack_text : Matter → ℕ → List ℕ
lack_text c h = if is_unknown (c.known (Support h)) then codes ", which may be cut" else codes ", cut"

-- a unit whose support doesn't count
unfoldable pub left_out_text : Matter → ℕ → List ℕ
left_out_text c h = codes "; without " ++ unit_in c h ++ lack_text c h

unfoldable pub own_power_words : List ℕ
own_power_words = codes ", whose own power stands in "

-- a support is of the power of the unit in q
unfoldable pub own_power_text : Chart → ℕ → List ℕ
own_power_text m q = own_power_words ++ code m q

-- why a support doesn't count against the unit in q: it is of that unit's power, or isn't given
unfoldable pub lack_against_text : Matter → ℕ → ℕ → List ℕ
lack_against_text c q h = if here c (Support h) then own_power_text c.map q else lack_text c h

-- a unit whose support doesn't count against the unit in q
unfoldable pub left_out_against_text : Matter → ℕ → ℕ → List ℕ
left_out_against_text c q h = codes "; without " ++ unit_in c h ++ lack_against_text c q h

-- a unit with those that support it: `(A bur, A ruh; without A boh, cut)`
unfoldable pub backed_text : Matter → ℕ → List ℕ
backed_text c p =
    codes " (" ++ unit_in c p ++ others (backer_text c) (backers c.situation (here c) p)
    ++ flat_map (left_out_text c) (left_out c.situation (here c) p) ++ codes ")"

-- a unit with those that support it against the unit in q
unfoldable pub backed_against_text : Matter → ℕ → ℕ → List ℕ
backed_against_text c p q =
    codes " (" ++ unit_in c p ++ others (backer_text c) (backers_against c.situation (here c) p q)
    ++ flat_map (left_out_against_text c q) (left_out_against c.situation (here c) p q) ++ codes ")"

-- what a unit of the mover's own power does that doesn't make way
unfoldable pub own_words : Bool → List ℕ
own_words meets = if meets then codes "comes the other way" else codes "stays there"

unfoldable pub since_text : Matter → ℕ → List ℕ
since_text c q = codes ", since " ++ unit_in c q

unfoldable pub own_way_words : List ℕ
own_way_words = codes ", of its own power, "

unfoldable pub own_way_text : Bool → List ℕ
own_way_text meets = own_way_words ++ own_words meets

-- the move from p goes to a unit of its own power, which doesn't make way
unfoldable pub own_text : Matter → ℕ → ℕ → List ℕ
own_text c p q = since_text c q ++ own_way_text (head_to_head c.situation p q)

-- who attacks q with p, or why nobody does
unfoldable pub attackers_text : Matter → ℕ → ℕ → List ℕ
attackers_text c p q =
    if not (has_path c.situation (here c) p) then codes ", since it has no route"
    else if is_free c.situation (here c) p q then backed_text c p
    else if c.situation.same_power p q then own_text c p q
    else backed_against_text c p q

-- how strong the move from p to q is
unfoldable pub attack_strength : Matter → ℕ → ℕ → List ℕ
attack_strength c p q = strength_text (not c.high) (attack c.situation (here c) p q) (attack c.situation (there c) p q)

-- the attack of the move from p to q, and who makes it
unfoldable pub attack_text : Matter → ℕ → ℕ → List ℕ
attack_text c p q = codes "attack " ++ attack_strength c p q ++ attackers_text c p q

-- a unit that leaves
unfoldable pub leaver_text : Matter → ℕ → List ℕ
leaver_text c q = codes " (" ++ unit_in c q ++ codes " leaves)"

-- a unit that nobody supports
unfoldable pub alone_text : Matter → ℕ → List ℕ
alone_text c q = codes " (" ++ unit_in c q ++ codes ")"

-- who holds q
unfoldable pub holders_text : Matter → ℕ → List ℕ
holders_text c q =
    if not (c.situation.is_occupied q) then []
    else if here c (Move q) then leaver_text c q
    else if has_move c.situation q then alone_text c q
    else backed_text c q

-- who sets itself against the move from p to q in the destination
unfoldable pub opponents_text : Matter → ℕ → ℕ → List ℕ
opponents_text c p q = if head_to_head c.situation p q then backed_text c q else holders_text c q

-- units head to head defend, and others are held
unfoldable pub opposition_word : Bool → List ℕ
opposition_word meets = if meets then codes "defend " else codes "hold "

unfoldable pub opposition_strength : Matter → ℕ → ℕ → List ℕ
opposition_strength c p q = strength_text c.high (opposition c.situation (here c) p q) (opposition c.situation (there c) p q)

-- what the destination sets against the move from p to q
unfoldable pub opposition_text : Matter → ℕ → ℕ → List ℕ
opposition_text c p q = opposition_word (head_to_head c.situation p q) ++ opposition_strength c p q ++ opponents_text c p q

unfoldable pub pathless_words : List ℕ
pathless_words = codes " has no route)"

-- a move that has no route prevents nobody
unfoldable pub pathless : Matter → ℕ → List ℕ
pathless c w = codes " (" ++ unit_in c w ++ pathless_words

-- a move that lost to the unit in q, head to head, prevents nobody
unfoldable pub loser_text : Matter → ℕ → ℕ → List ℕ
loser_text c q w = codes " (" ++ unit_in c w ++ codes " lost to " ++ unit_in c q ++ codes " head to head)"

-- who prevents other moves to q with w, or why nobody does
unfoldable pub preventers_text : Matter → ℕ → ℕ → List ℕ
preventers_text c q w =
    if not (has_path c.situation (here c) w) then pathless c w
    else if head_to_head c.situation w q && here c (Move q) then loser_text c q w
    else backed_text c w

unfoldable pub prevent_strength : Matter → ℕ → ℕ → List ℕ
prevent_strength c q w = strength_text c.high (prevent c.situation (here c) w q) (prevent c.situation (there c) w q)

-- what the move from w to q sets against other moves there
unfoldable pub prevent_text : Matter → ℕ → ℕ → List ℕ
prevent_text c q w = codes "prevent " ++ prevent_strength c q w ++ preventers_text c q w
