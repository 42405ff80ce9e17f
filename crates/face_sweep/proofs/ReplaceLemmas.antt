-- Elements of a list replaced by others.
use Rattle.std.proofs.Common.{◌≡◌, ℕ, ◌+◌, ◌-◌, ◌<◌, ◌≤◌, List, [], ◌∷◌, ◌++◌, length, get_or}
use Rattle.std.proofs.Common.{set, take, drop, sym, ap, ◌∙◌, arith}
use Rattle.std.proofs.Math.ListN.{length-append, take-append-drop}
use Rattle.std.proofs.lemmas.List.{append_assoc, drop-drop, drop_at, drop_more, length-take-le, set_at, take_at, take_more}

-- one element overwritten
pub set_more : {A : Type 0} (old now others : List A) (d : A) (from i : ℕ) → from + i < length old → i < length others
    → now ≡ (take from old ++ take i others) ++ drop (from + i) old
    → set now (from + i) (get_or others i d) ≡ (take from old ++ take (i + 1) others) ++ drop (from + (i + 1)) old
set_more old now others d from i less inside e =
    let front = take from old ++ take i others in
    let x = get_or others i d in
    let next : (from + i) + 1 ≡ from + (i + 1) = omega arith in
    let long : length front ≡ from + i =
    length-append (take from old) (take i others)
    ∙ (λ j. length-take-le from old (omega arith) j + length-take-le i others (omega arith) j) in
    ap (λ l. set l (from + i) x) (e ∙ ap (λ l. front ++ l) (drop_more old (from + i) d less))
    ∙ set_at front (get_or old (from + i) d) (drop ((from + i) + 1) old) x (from + i) long
    ∙ sym (append_assoc front (x ∷ []) (drop ((from + i) + 1) old))
    ∙ ap (λ l. l ++ drop ((from + i) + 1) old) (append_assoc (take from old) (take i others) (x ∷ [])
    ∙ ap (λ l. take from old ++ l) (sym (take_more others i d inside)))
    ∙ ap (λ k. (take from old ++ take (i + 1) others) ++ drop k old) next

-- some overwritten, others taken out, and others put in
pub replaced : {A : Type 0} (old first second third others : List A) (from to c : ℕ) → c ≤ length others → from + c ≤ to → to ≤ length old
    → first ≡ take from old ++ take c others ++ drop (from + c) old
    → second ≡ take (from + c) first ++ drop to first
    → third ≡ take (from + c) second ++ drop c others ++ drop (from + c) second
    → third ≡ take from old ++ others ++ drop to old
replaced {A} old first second third others from to c most order bound is_first is_second is_third =
    is_third
    ∙ (λ i. front_second i ++ drop c others ++ back_second i)
    ∙ ap (λ l. l ++ drop to old) (append_assoc (take from old) (take c others) (drop c others)
    ∙ ap (λ l. take from old ++ l) (take-append-drop c others))
  where
    front : List A
    front = take from old ++ take c others

    long : length front ≡ from + c
    long = length-append (take from old) (take c others)
        ∙ (λ j. length-take-le from old (omega arith) j + length-take-le c others most j)

    rest : ℕ
    rest = to - (from + c)

    sum : (from + c) + rest ≡ to
    sum = omega arith

    back : drop to first ≡ drop to old
    back = ap (drop to) is_first ∙ ap (λ k. drop k (front ++ drop (from + c) old)) (sym sum)
        ∙ sym (drop-drop rest (from + c) (front ++ drop (from + c) old))
        ∙ ap (drop rest) (drop_at front (drop (from + c) old) (from + c) long)
        ∙ drop-drop rest (from + c) old
        ∙ ap (λ k. drop k old) sum

    is_so : second ≡ front ++ drop to old
    is_so = is_second ∙ (λ i. (ap (take (from + c)) is_first ∙ take_at front (drop (from + c) old) (from + c) long) i ++ back i)

    front_second : take (from + c) second ≡ front
    front_second = ap (take (from + c)) is_so ∙ take_at front (drop to old) (from + c) long

    back_second : drop (from + c) second ≡ drop to old
    back_second = ap (drop (from + c)) is_so ∙ drop_at front (drop to old) (from + c) long
