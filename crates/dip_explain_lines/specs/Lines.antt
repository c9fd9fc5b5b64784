-- The line of a decision: why a move succeeds or fails, why a support is given or cut, and why a convoy has a route or none.
use Rattle.std.specs.Prelude.{ℕ, Bool, ◌==◌, ◌&&◌, not, nat_lt, List, [], ◌++◌, codes, filter, flat_map, Option, None, Some, if◌then◌else◌}
use Rattle.dip_map.specs.Charts.{Chart}
use Rattle.dip_decide_rules.specs.declared.decisions.Decision.{Decision}
use Rattle.dip_decide_rules.specs.declared.decisions.Decision.TheVariants.{Move, Path, Support}
use Rattle.dip_decide_rules.specs.Deciding.{Assignment}
use Rattle.dip_decide_rules.specs.Movement.{Situation, attack, beats, cuts, goes, is_at, is_entered, opposition, serves}
use Rattle.dip_explain_strengths.specs.Matters.{Matter, code, here, joined, joined_or, order_in, others, unit_in}
use Rattle.dip_explain_strengths.specs.StrengthTexts.{prevent_text, attack_text, opposition_text}

-- another move to q than that of p
abbrev pub is_rival : Situation → ℕ → ℕ → ℕ → Bool
is_rival s p q w = not (w == p) && goes s w q

abbrev pub rivals : Situation → ℕ → ℕ → List ℕ
rivals s p q = filter (is_rival s p q) s.places

-- the move from p doesn't beat the other one from w to q
unfoldable pub is_unbeaten : Situation → Assignment → ℕ → ℕ → ℕ → Bool
is_unbeaten s a p q w = not (beats s a p q w)

-- the other moves to q that the move from p doesn't beat
abbrev pub unbeaten : Situation → Assignment → ℕ → ℕ → List ℕ
unbeaten s a p q = filter (is_unbeaten s a p q) s.places

-- all that the attack exceeds
unfoldable pub exceeded_text : Matter → ℕ → ℕ → List ℕ
exceeded_text c p q = opposition_text c p q ++ others (prevent_text c q) (rivals c.situation p q)

-- what the attack doesn't exceed: what the destination sets against it, else each other move that prevents it
unfoldable pub unexceeded_text : Matter → ℕ → ℕ → List ℕ
unexceeded_text c p q =
    if nat_lt (opposition c.situation (here c) p q) (attack c.situation (here c) p q) then joined (prevent_text c q) (unbeaten c.situation (here c) p q)
    else opposition_text c p q

-- what the attack is compared with; nothing where it is 0
unfoldable pub comparison_text : Matter → ℕ → ℕ → List ℕ
comparison_text c p q =
    if attack c.situation (here c) p q == 0 then []
    else codes " against " ++ (if c.high then unexceeded_text c p q else exceeded_text c p q)

-- the move of p succeeds, or fails
unfoldable pub move_text : Matter → ℕ → Option ℕ → List ℕ
move_text c p None = order_in c.map c.orders p ++ codes " is no move"
move_text c p (Some q) =
    order_in c.map c.orders p ++ (if c.high then codes " fails: " else codes " succeeds: ") ++ attack_text c p q ++ comparison_text c p q

-- a move from x, into which a support goes, and what became of it
unfoldable pub coming_text : Chart → ℕ → List ℕ → List ℕ
coming_text m x became = codes " comes from " ++ code m x ++ codes ", where the support goes, and " ++ became

-- how the move of x cuts the support of h
unfoldable pub cutting_text : Matter → ℕ → ℕ → List ℕ
cutting_text c h x = if is_at (c.situation.aim h) x then coming_text c.map x (codes "succeeds") else codes " attacks it"

-- the move of x, by which the support of h is cut
unfoldable pub cut_text : Matter → ℕ → ℕ → List ℕ
cut_text c h x = order_in c.map c.orders x ++ cutting_text c h x

-- why the move of x doesn't cut the support of h
unfoldable pub sparing_text : Matter → ℕ → ℕ → List ℕ
sparing_text c h x =
    if c.situation.same_power x h then codes " is of its own power"
    else if is_at (c.situation.aim h) x then coming_text c.map x (codes "fails")
    else codes " has no route"

-- the move of x, by which the support of h isn't cut
unfoldable pub spared_text : Matter → ℕ → ℕ → List ℕ
spared_text c h x = order_in c.map c.orders x ++ sparing_text c h x

-- the moves to h
abbrev pub movers : Situation → ℕ → List ℕ
movers s h = filter (λ x. goes s x h) s.places

-- why the support of h is given
unfoldable pub given_text : Matter → ℕ → List ℕ
given_text c h = joined_or (codes "no move goes to " ++ code c.map h) (spared_text c h) (movers c.situation h)

-- the move of x cuts the support of h
unfoldable pub is_cut_by : Situation → Assignment → ℕ → ℕ → Bool
is_cut_by s a h x = cuts s a h x

abbrev pub cutters : Situation → Assignment → ℕ → List ℕ
cutters s a h = filter (is_cut_by s a h) s.places

-- the support of h is given, or cut
unfoldable pub support_text : Matter → ℕ → List ℕ
support_text c h =
    order_in c.map c.orders h
    ++ (if c.high then codes " is cut: " ++ joined (cut_text c h) (cutters c.situation (here c) h)
    else codes " is given: " ++ given_text c h)

-- the move of n enters x
unfoldable pub enters : Situation → Assignment → ℕ → ℕ → Bool
enters s a x n = goes s n x && a (Move n)

abbrev pub enterers : Situation → Assignment → ℕ → List ℕ
enterers s a x = filter (enters s a x) s.places

-- by whose move a fleet is dislodged
unfoldable pub enterer_text : Matter → ℕ → List ℕ
enterer_text c n = codes " by " ++ order_in c.map c.orders n

unfoldable pub dislodged_words : List ℕ
dislodged_words = codes " is dislodged"

-- a fleet is dislodged, by whom
unfoldable pub dislodged_text : Matter → ℕ → List ℕ
dislodged_text c x = dislodged_words ++ flat_map (enterer_text c) (enterers c.situation (here c) x)

-- what has become of a fleet that is to carry a move without a route
unfoldable pub fleet_text : Matter → ℕ → List ℕ
fleet_text c x = if is_entered c.situation (here c) x then dislodged_text c x else codes " completes no chain"

-- a fleet that is to carry a move without a route
unfoldable pub carrier_text : Matter → ℕ → List ℕ
carrier_text c x = unit_in c x ++ fleet_text c x

-- the fleets whose convoys of p match
abbrev pub carriers : Situation → ℕ → List ℕ
carriers s p = filter (λ x. s.convoys x p) s.places

-- why the move of p has no route
unfoldable pub stranded_text : Matter → ℕ → List ℕ
stranded_text c p = joined_or (codes "no fleet carries it") (carrier_text c) (carriers c.situation p)

-- the fleets that carry the move of p
abbrev pub servers : Situation → Assignment → ℕ → List ℕ
servers s a p = filter (serves s a p) s.places

unfoldable pub no_route_words : List ℕ
no_route_words = codes " has no route: "

unfoldable pub no_route_text : Matter → ℕ → List ℕ
no_route_text c p = no_route_words ++ stranded_text c p

unfoldable pub route_words : List ℕ
route_words = codes " has a route: carried by "

unfoldable pub route_text : Matter → ℕ → List ℕ
route_text c p = route_words ++ joined (unit_in c) (servers c.situation (here c) p)

-- the move of p has a route by convoy, or none
unfoldable pub path_text : Matter → ℕ → List ℕ
path_text c p = order_in c.map c.orders p ++ (if c.high then no_route_text c p else route_text c p)

-- what is said of a decision that has the one value whatever is open
unfoldable pub decision_text : Matter → Decision → List ℕ
decision_text c (Move p) = move_text c p (c.situation.target p)
decision_text c (Path p) = path_text c p
decision_text c (Support p) = support_text c p
