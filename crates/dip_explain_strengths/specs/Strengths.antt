-- The units that a strength counts, and those that it leaves out.
use Rattle.std.specs.Prelude.{ℕ, Bool, ◌&&◌, ◌||◌, not, List, [], ◌∷◌, filter, if◌then◌else◌}
use Rattle.dip_decide_rules.specs.declared.decisions.Decision.TheVariants.{Move, Support}
use Rattle.dip_decide_rules.specs.Deciding.{Assignment}
use Rattle.dip_decide_rules.specs.Movement.{Situation, has_move, has_path, head_to_head}

-- h has a given support of the unit in p
unfoldable pub backs : Situation → Assignment → ℕ → ℕ → Bool
backs s a p h = s.supports h p && a (Support h)

-- h has a given support of the unit in p, and is of another power than the unit in q
unfoldable pub backs_against : Situation → Assignment → ℕ → ℕ → ℕ → Bool
backs_against s a p q h = backs s a p h && not (s.same_power h q)

-- whose supports of p count
abbrev pub backers : Situation → Assignment → ℕ → List ℕ
backers s a p = filter (backs s a p) s.places

-- whose supports of p count against the unit in q
abbrev pub backers_against : Situation → Assignment → ℕ → ℕ → List ℕ
backers_against s a p q = filter (backs_against s a p q) s.places

-- h has a support of p that matches and doesn't count
unfoldable pub is_left_out : Situation → Assignment → ℕ → ℕ → Bool
is_left_out s a p h = s.supports h p && not (backs s a p h)

unfoldable pub is_left_out_against : Situation → Assignment → ℕ → ℕ → ℕ → Bool
is_left_out_against s a p q h = s.supports h p && not (backs_against s a p q h)

-- whose supports of p match, and don't count
abbrev pub left_out : Situation → Assignment → ℕ → List ℕ
left_out s a p = filter (is_left_out s a p) s.places

abbrev pub left_out_against : Situation → Assignment → ℕ → ℕ → List ℕ
left_out_against s a p q = filter (is_left_out_against s a p q) s.places

-- the move from p to q meets nobody: nobody is there, or the unit there leaves and doesn't come the other way
abbrev pub is_free : Situation → Assignment → ℕ → ℕ → Bool
is_free s a p q = not (s.is_occupied q) || (a (Move q) && not (head_to_head s p q))

-- the units that attack q with p
abbrev pub attackers : Situation → Assignment → ℕ → ℕ → List ℕ
attackers s a p q =
    if not (has_path s a p) then []
    else if is_free s a p q then p ∷ backers s a p
    else if s.same_power p q then []
    else p ∷ backers_against s a p q

-- the units that hold q
abbrev pub holders : Situation → Assignment → ℕ → List ℕ
holders s a q =
    if not (s.is_occupied q) || a (Move q) then []
    else if has_move s q then q ∷ []
    else q ∷ backers s a q

-- the units that set themselves against the move from p to q in the destination
abbrev pub opponents : Situation → Assignment → ℕ → ℕ → List ℕ
opponents s a p q = if head_to_head s p q then q ∷ backers s a q else holders s a q

-- the units that prevent other moves to q with p
abbrev pub preventers : Situation → Assignment → ℕ → ℕ → List ℕ
preventers s a p q = if not (has_path s a p) || (head_to_head s p q && a (Move q)) then [] else p ∷ backers s a p
