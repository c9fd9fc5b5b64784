-- What matchit's parameters take of a path.
use Rattle.std.proofs.Common.{◌≡◌, ◌<◌, ◌≤◌, ◌+◌, ◌-◌, ℕ, suc, List, [], ◌∷◌, ◌++◌, true, false, cond, ◌==◌, length, take, drop, refl, ap, ◌∙◌, arith, codes, length-append, nat_lt}
use Rattle.std.specs.Prelude.{ltb, leb}
use Rattle.std.specs.List.{list_all}
use Rattle.std.proofs.lemmas.Bool.Decides.{nat_tests}
use Rattle.matchit.specs.Params.{walk, wild_from, part_of, next_at}
use Rattle.matchit.specs.Seek.{has_slash}
use Rattle.matchit.specs.Seek as seeks
use Rattle.dip_http_messages.specs.Table.{game_route, paper_route}
use Rattle.dip_letters.proofs.WordLemmas.{and_first, and_second}
use Rattle.dip_http_messages.proofs.SeekLemmas.{below}
use Rattle.dip_letters.proofs.CutLemmas.{take_front}

next_more : (len at : ℕ) → at < len → next_at len at ≡ at + 1
next_more len at lt = let e : ltb at len ≡ true = grind (arith, nat_tests) in rw e refl

not_wild : (b : ℕ) → b < 256 → ltb b 256 ≡ true
not_wild b lt = grind (arith, nat_tests)

-- past the bytes before a parameter
wild_past : (w rest : List ℕ) (len token at : ℕ) → list_all (λ b. nat_lt b 256) w ≡ true → at + length w ≤ len
    → wild_from (w ++ 256 ∷ rest) len token at ≡ (token + length w, at + length w)
wild_past [] rest len token at small fits = let a : token ≡ token + 0 = omega arith in let b : at ≡ at + 0 = omega arith in λ i. (a i, b i)
wild_past (b ∷ w) rest len token at small fits =
    let e : ltb b 256 ≡ true = not_wild b (below b (and_first _ _ small)) in
    let n : next_at len at ≡ at + 1 = next_more len at (omega arith) in
    let fits_more : at + 1 + length w ≤ len = omega arith in
    let more : wild_from (w ++ 256 ∷ rest) len (token + 1) (at + 1) ≡ (token + 1 + length w, at + 1 + length w) = wild_past w rest len (token + 1) (at + 1) (and_second _ _ small) fits_more in
    let p : token + 1 + length w ≡ token + suc (length w) = omega arith in
    let q : at + 1 + length w ≡ at + suc (length w) = omega arith in
    rw (e, n, more, p, q) refl

part_is : (bytes : List ℕ) (start end : ℕ) → start ≤ end → end ≤ length bytes → part_of bytes start end ≡ take (end - start) (drop start bytes)
part_is bytes start end a b =
    let e : leb start end ≡ true = grind (arith, nat_tests) in
    let f : leb end (length bytes) ≡ true = grind (arith, nat_tests) in
    rw (e, f) refl

take_all : (xs : List ℕ) → take (length xs) xs ≡ xs
take_all [] = refl
take_all (x ∷ xs) = ap (λ t. x ∷ t) (take_all xs)

drop_past : (a b : List ℕ) (n : ℕ) → drop (length a + n) (a ++ b) ≡ drop n b
drop_past [] b n = let e : 0 + n ≡ n = omega arith in rw e refl
drop_past (x ∷ a) b n = let e : suc (length a) + n ≡ suc (length a + n) = omega arith in rw e (drop_past a b n)

pub walk_game : (name : List ℕ) → walk game_route.pattern game_route.text (codes "/games/" ++ name) game_route.names 0 0 ≡ (codes "game", name) ∷ []
walk_game name =
    let len = length (codes "/games/" ++ name) in
    let at : (wild_from (codes "/games/" ++ 256 ∷ []) len 0 0).1 ≡ 7 = ap (λ (p : ℕ × ℕ). p.1) (wild_past (codes "/games/") [] len 0 0 refl (omega arith)) in
    let size : len - 7 ≡ length name = omega arith in
    let part : part_of (codes "/games/" ++ name) 7 len ≡ name = part_is (codes "/games/" ++ name) 7 len (omega arith) (omega arith) ∙ (ap (λ n. take n name) size ∙ take_all name) in
    rw (at, part) refl

seg_more : (name rest : List ℕ) → has_slash name ≡ false → seeks.segment (name ++ 47 ∷ rest) ≡ name ++ 47 ∷ []
seg_more [] rest e = refl
seg_more (b ∷ name) rest e =
    (elim (b == 47) as (λ t. cond t true (has_slash name) ≡ false → cond t (b ∷ []) (b ∷ seeks.segment (name ++ 47 ∷ rest)) ≡ b ∷ (name ++ 47 ∷ []))
    [ true ↦ λ h. absurd (cc) | false ↦ λ h. ap (λ t. b ∷ t) (seg_more name rest h) ]) e

pub walk_paper : (name number : List ℕ) → has_slash name ≡ false
    → walk paper_route.pattern paper_route.text (codes "/games/" ++ (name ++ (codes "/papers/" ++ number))) paper_route.names 0 0 ≡ (codes "game", name) ∷ (codes "number", number) ∷ []
walk_paper name number plain =
    let tail = codes "/papers/" ++ number in
    let path = codes "/games/" ++ (name ++ tail) in
    let len = length path in
    let total : len ≡ 15 + length name + length number = omega (arith, length-append name tail) in
    let at : (wild_from (codes "/games/" ++ 256 ∷ codes "/papers/" ++ 256 ∷ []) len 0 0).1 ≡ 7 = ap (λ (p : ℕ × ℕ). p.1) (wild_past (codes "/games/") (codes "/papers/" ++ 256 ∷ []) len 0 0 refl (omega arith)) in
    let first_len : length (seeks.segment (name ++ tail)) ≡ length name + 1 = ap length (seg_more name (codes "papers/" ++ number) plain) ∙ length-append name (47 ∷ []) in
    let stop : 7 + length (seeks.segment (name ++ tail)) - 1 ≡ 7 + length name = omega arith in
    let next : (wild_from (codes "/papers/" ++ 256 ∷ []) len 8 (7 + length name)).1 ≡ 15 + length name = ap (λ (p : ℕ × ℕ). p.1) (wild_past (codes "/papers/") [] len 8 (7 + length name) refl (omega arith)) ∙ (omega arith) in
    let one : part_of path 7 (7 + length name) ≡ name = part_is path 7 (7 + length name) (omega arith) (omega arith) ∙ (ap (λ n. take n (name ++ tail)) (omega arith) ∙ take_front name tail) in
    let last : drop (15 + length name) path ≡ number = ap (λ n. drop n path) (omega arith) ∙ (drop_past (codes "/games/") (name ++ tail) (length name + 8) ∙ drop_past name tail 8) in
    let two : part_of path (15 + length name) len ≡ number = part_is path (15 + length name) len (omega arith) (omega arith) ∙ (ap (λ (t : List ℕ). take (len - (15 + length name)) t) last ∙ (ap (λ n. take n number) (omega arith) ∙ take_all number)) in
    rw (at, stop, next, one, two) refl
