-- The fleets that a line names, and the routes that they make.
use Rattle.std.proofs.Common.{◌≡◌, ◌∙◌, ℕ, List, [], ◌∷◌, inl, inr, length, refl, sym, suc}
use Rattle.std.specs.Prelude.{true, false, not, Some}
use Rattle.std.proofs.lemmas.Bool.{and_parts, and_from, both_ways, cases_Bool, not-true}
use mathlib.Core.Logic.{◌⊎◌}
use Rattle.dip_decide_rules.specs.Deciding.{Assignment}
use Rattle.dip_decide_rules.specs.Laws.{AreJoined}
use Rattle.dip_decide_rules.specs.Movement.{Situation, IsSituation, goes, is_listed, is_entered, path_rule, serves}
use Rattle.dip_decide_rules.specs.declared.decisions.Decision.TheVariants.{Move}
use Rattle.dip_decide_rules.proofs.ChainLaws.{listed_kept}
use Rattle.dip_decide_rules.proofs.Rises.{entered_rises}
use Rattle.dip_decide_rules.proofs.Chaining.{found_chain, chain_found}
use Rattle.dip_explain_strengths.specs.Matters.{Matter, here}
use Rattle.dip_explain_lines.specs.Lines.{carriers, dislodged_text, dislodged_words, enterer_text, fleet_text, enterers, enters, servers}
use Rattle.dip_explain_laws.specs.Words.{HasRoute, IsFleetSaid}
use Rattle.dip_explain_laws.specs.Words.IsFleetSaid.{dislodged, idle}
use Rattle.dip_explain_laws.proofs.ListLemmas.{kept, some_passes, passing}

server_listed : (s : Situation) → IsSituation s → (a : Assignment) (p x : ℕ) → serves s a p x ≡ true → is_listed s.places x ≡ true
server_listed s i a p x h = i.carrier_listed x p (and_parts _ _ h).0

-- a fleet that a line names as carrying is ordered to, and wasn't dislodged
pub server_serves : (s : Situation) (a b : Assignment) (p x : ℕ) → ((n : ℕ) → b (Move n) ≡ true → a (Move n) ≡ true) → is_listed (servers s a p) x ≡ true
    → (s.convoys x p ≡ true) × (is_entered s b x ≡ false)
server_serves s a b p x more l =
    let e = and_parts (s.convoys x p) (not (is_entered s a x)) (kept (serves s a p) s.places x l) in
    (e.0, go (cases_Bool (is_entered s b x)) (not-true _ e.1))
  where
    go : (is_entered s b x ≡ true) ⊎ (is_entered s b x ≡ false) → is_entered s a x ≡ false → is_entered s b x ≡ false
    go (inr n) _ = n
    go (inl y) m = absurd (both_ways _ m (entered_rises s a b x (λ n _ h. more n h) y))

pub carrier_matches : (s : Situation) → IsSituation s → (p x : ℕ) → is_listed (carriers s p) x ≡ s.convoys x p
carrier_matches s i p x = passing (λ y. s.convoys y p) s.places x (i.carrier_listed x p)

named_joined : (s : Situation) → IsSituation s → (a : Assignment) (p q : ℕ) (xs : List ℕ) (y : ℕ) → AreJoined (serves s a p) s.next q y xs → AreJoined (is_listed (servers s a p)) s.next q y xs
named_joined s i a p q [] y j = j
named_joined s i a p q (x ∷ xs) y j = (listed_kept (serves s a p) s.places x ∙ and_from _ _ j.0 (server_listed s i a p x j.0), j.1, named_joined s i a p q xs x j.2)

joined_named : (s : Situation) (a : Assignment) (p q : ℕ) (xs : List ℕ) (y : ℕ) → AreJoined (is_listed (servers s a p)) s.next q y xs → AreJoined (serves s a p) s.next q y xs
joined_named s a p q [] y j = j
joined_named s a p q (x ∷ xs) y j = ((and_parts (serves s a p x) (is_listed s.places x) (sym (listed_kept (serves s a p) s.places x) ∙ j.0)).0, j.1, joined_named s a p q xs x j.2)

pub route_found : (s : Situation) → IsSituation s → (a : Assignment) (p q : ℕ) → path_rule s a p (Some q) ≡ true → HasRoute s a p q
route_found s i a p q h = let f = found_chain (serves s a p) s.next s.places q (suc (length s.places)) p h in (f.0, (f.1.0, named_joined s i a p q f.0 p f.1.1))

pub route_leads : (s : Situation) → IsSituation s → (a : Assignment) (p q : ℕ) → HasRoute s a p q → path_rule s a p (Some q) ≡ true
route_leads s i a p q r = chain_found (serves s a p) s.next s.places q (λ x h. server_listed s i a p x h) p r.0 (r.1.0, joined_named s a p q r.0 p r.1.1)

-- what is said of a fleet

pub fleet_said : (c : Matter) (a : Assignment) (x : ℕ) → ((n : ℕ) → here c (Move n) ≡ true → a (Move n) ≡ true) → IsFleetSaid c a x
unfolding fleet_text dislodged_text dislodged_words enterer_text enters
fleet_said c a x won = go (cases_Bool (is_entered c.situation (here c) x))
  where
    came : (n : ℕ) → is_listed (enterers c.situation (here c) x) n ≡ true → (goes c.situation n x ≡ true) × (a (Move n) ≡ true)
    came n l = let e = and_parts (goes c.situation n x) _ (kept (enters c.situation (here c) x) c.situation.places n l) in (e.0, won n e.1)

    go : (is_entered c.situation (here c) x ≡ true) ⊎ (is_entered c.situation (here c) x ≡ false) → IsFleetSaid c a x
    go (inr n) = idle (rw n refl)
    go (inl y) =
        let w = some_passes (enters c.situation (here c) x) c.situation.places y in
        dislodged w.0 (listed_kept (enters c.situation (here c) x) c.situation.places w.0 ∙ and_from _ _ w.2 w.1) came (rw y refl)
