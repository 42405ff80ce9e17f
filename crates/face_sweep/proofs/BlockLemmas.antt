-- Blocks and their elements.
use Rattle.std.proofs.Common.{◌≡◌, ℕ, zero, suc, ◌+◌, ◌-◌, ◌<◌, ◌≤◌, List, [], ◌∷◌, ◌++◌, length}
use Rattle.std.proofs.Common.{get_or, take, drop, refl, sym, ap, ◌∙◌, arith}
use Rattle.std.proofs.Math.Seq.{drop-append-add, take-append-add}
use Rattle.std.proofs.lemmas.List.{append-nil, append_assoc, drop-append-le, get_or-append_right, get_or_append_left, get_or_read}
use Rattle.std.proofs.lemmas.List.{length-append, take-append-drop, take-append-le, take_all, take_more}
use Rattle.std.specs.declared.vec.Vec.{Vec}
use Rattle.face_sweep.specs.declared.blocks.Blocks.{Blocks}
use Rattle.face_sweep.specs.Blocks.{AreBlocks, IsSame, all_before, list_in, all_after}

before_append : {X Y : Type 0} (bs cs : List (Vec X Y)) → all_before (bs ++ cs) ≡ all_before bs ++ all_before cs
before_append [] cs = refl
before_append (b ∷ bs) cs = ap (λ l. b.items ++ l) (before_append bs cs) ∙ sym (append_assoc b.items (all_before bs) (all_before cs))

pub before_push : {X Y : Type 0} (bs : List (Vec X Y)) (b : Vec X Y) → all_before (bs ++ b ∷ []) ≡ all_before bs ++ b.items
before_push bs b = before_append bs (b ∷ []) ∙ ap (λ l. all_before bs ++ l) (append-nil b.items)

pub after_push : {X Y : Type 0} (bs : List (Vec X Y)) (b : Vec X Y) → all_after (bs ++ b ∷ []) ≡ b.items ++ all_after bs
after_push [] b = sym (append-nil b.items)
after_push (a ∷ bs) b = ap (λ l. l ++ a.items) (after_push bs b) ∙ append_assoc b.items (all_after bs) a.items

pub before_more : {X Y : Type 0} (bs : List (Vec X Y)) (at : ℕ) (b : Vec X Y) → at < length bs → b ≡ get_or bs at b
    → all_before (take (at + 1) bs) ≡ all_before (take at bs) ++ b.items
before_more {X} {Y} bs at b less e =
    ap all_before (take_more bs at b less) ∙ before_push (take at bs) (get_or bs at b)
    ∙ ap (λ (a : Vec X Y). all_before (take at bs) ++ a.items) (sym e)

pub after_more : {X Y : Type 0} (bs : List (Vec X Y)) (at : ℕ) (b : Vec X Y) → at < length bs → b ≡ get_or bs at b
    → all_after (take (at + 1) bs) ≡ b.items ++ all_after (take at bs)
after_more {X} {Y} bs at b less e =
    ap all_after (take_more bs at b less) ∙ after_push (take at bs) (get_or bs at b)
    ∙ ap (λ (a : Vec X Y). a.items ++ all_after (take at bs)) (sym e)

-- where there are elements, there is a block
pub some_block : {A B : Type 0} (f : List A → List B) (bs : List A) (at n : ℕ) → f [] ≡ [] → n < length (f (take at bs)) → 0 < at
some_block f bs zero n none less = absurd (omega (arith, ap length none))
some_block f bs (suc at) n none less = omega arith

-- where the block before one begins
pub step_back : {X Y : Type 0} (bs : List (Vec X Y)) (at start index n : ℕ) (b : Vec X Y) → at ≤ length bs
    → start ≡ length (all_before (take at bs)) → index < start → b ≡ get_or bs (at - 1) b → n ≡ length b.items
    → (0 < at) × (start ≡ length (all_before (take (at - 1) bs)) + n)
step_back bs at start index n b bound is less block count =
    let some : 0 < at = some_block all_before bs at index refl (omega (arith, is)) in
    let next : (at - 1) + 1 ≡ at = omega arith in
    let more = ap length (before_more bs (at - 1) b (omega arith) block) in
    let one = ap (λ k. length (all_before (take k bs))) next in
    (some, omega (arith, is, count, one, more, length-append (all_before (take (at - 1) bs)) b.items))

-- where there are more elements than before a block, there is that block
pub some_more : {A B : Type 0} (f : List A → List B) (bs : List A) (at n : ℕ) → length (f (take at bs)) ≤ n
    → n < length (f (take (at + 1) bs)) → at < length bs
some_more f bs at n low high = grind (arith, all)
  where
    all : length bs ≤ at → length (f (take (at + 1) bs)) ≡ length (f (take at bs))
    all most = ap (λ l. length (f l)) (take_all (at + 1) bs (omega arith) ∙ sym (take_all at bs most))

-- an element of the block at `at`, in all
pub read_before : {X Y : Type 0} (bs : List (Vec X Y)) (at start index : ℕ) (b : Vec X Y) (x d : X) → at < length bs → b ≡ get_or bs at b
    → start ≡ length (all_before (take at bs)) → start ≤ index → index < length (all_before (take (at + 1) bs))
    → x ≡ get_or b.items (index - start) x → x ≡ get_or (all_before bs) index d
read_before {X} {Y} bs at start index b x d less is count low high read =
    get_or_read b.items (index - start) x (omega (arith, count, ap length more, length-append front b.items)) read d
    ∙ sym (get_or-append_right front b.items start index d (sym count) low)
    ∙ ap (λ l. get_or l index d) (sym more)
    ∙ sym (get_or_append_left (all_before (take (at + 1) bs)) (all_before (drop (at + 1) bs)) d index high)
    ∙ ap (λ l. get_or l index d) (sym (before_append (take (at + 1) bs) (drop (at + 1) bs)) ∙ ap all_before (take-append-drop (at + 1) bs))
  where
    front : List X
    front = all_before (take at bs)

    more : all_before (take (at + 1) bs) ≡ front ++ b.items
    more = before_more bs at b less is

-- an element that isn't in the block at `at`
pub past_block : {X Y : Type 0} (bs : List (Vec X Y)) (at left n : ℕ) (b : Vec X Y) (d : X) → at < length bs → b ≡ get_or bs at b
    → n ≡ length b.items → n ≤ left → get_or (all_after (take (at + 1) bs)) left d ≡ get_or (all_after (take at bs)) (left - n) d
past_block bs at left n b d less is count low =
    ap (λ l. get_or l left d) (after_more bs at b less is) ∙ get_or-append_right b.items (all_after (take at bs)) n left d (sym count) low

-- an element of the block at `at`
pub read_after : {X Y : Type 0} (bs : List (Vec X Y)) (at left : ℕ) (b : Vec X Y) (x d : X) → at < length bs → b ≡ get_or bs at b
    → left < length b.items → x ≡ get_or b.items left x → x ≡ get_or (all_after (take (at + 1) bs)) left d
read_after bs at left b x d less is inside read =
    get_or_read b.items left x inside read d ∙ sym (get_or_append_left b.items (all_after (take at bs)) d left inside)
    ∙ ap (λ l. get_or l left d) (sym (after_more bs at b less is))

-- elements counted to the first part or to the second
pub regrouped : {A : Type 0} (xs ys zs left right : List A) → left ≡ xs ++ ys → right ≡ ys ++ zs → left ++ zs ≡ xs ++ right
regrouped xs ys zs left right e f = ap (λ l. l ++ zs) e ∙ append_assoc xs ys zs ∙ ap (λ l. xs ++ l) (sym f)

same_list : {X : Type 0} (s t : Blocks X) → AreBlocks s → t.start ≡ length (all_before t.before.items) → t.len ≡ s.len
    → list_in t ≡ list_in s → IsSame s t
same_list s t h start len e = record { list = e; blocks = record { start = start; len = len ∙ h.len ∙ ap length (sym e) } }

-- the block before is the current one
pub went_back : {X : Type 0} (s t : Blocks X) → AreBlocks s → all_before s.before.items ≡ all_before t.before.items ++ t.here.items
    → all_after t.after.items ≡ s.here.items ++ all_after s.after.items → t.start ≡ s.start - length t.here.items → t.len ≡ s.len
    → IsSame s t
went_back s t h front back start len =
    same_list s t h (omega (arith, h.start, ap length front, length-append (all_before t.before.items) t.here.items)) len
    (ap (λ l. all_before t.before.items ++ (t.here.items ++ l)) back
    ∙ sym (regrouped (all_before t.before.items) t.here.items (s.here.items ++ all_after s.after.items) (all_before s.before.items) _
    front refl))

-- the block after is the current one
pub went_on : {X : Type 0} (s t : Blocks X) → AreBlocks s → all_before t.before.items ≡ all_before s.before.items ++ s.here.items
    → all_after s.after.items ≡ t.here.items ++ all_after t.after.items → t.start ≡ s.start + length s.here.items → t.len ≡ s.len
    → IsSame s t
went_on s t h front back start len =
    same_list s t h (omega (arith, h.start, ap length front, length-append (all_before s.before.items) s.here.items)) len
    (ap (λ l. all_before t.before.items ++ l) (sym back)
    ∙ regrouped (all_before s.before.items) s.here.items (all_after s.after.items) (all_before t.before.items) _ front refl)

-- the current block has more of the elements from it on, or fewer
pub stayed : {X : Type 0} (s t : Blocks X) → AreBlocks s → all_before t.before.items ≡ all_before s.before.items
    → t.here.items ++ all_after t.after.items ≡ s.here.items ++ all_after s.after.items → t.start ≡ s.start → t.len ≡ s.len → IsSame s t
stayed s t h front back start len =
    same_list s t h (start ∙ h.start ∙ ap length (sym front)) len (λ i. front i ++ back i)

-- what is replaced in a part is replaced in the whole
pub replaced_within : {A : Type 0} (xs ys zs others new : List A) (start from to : ℕ) → start ≡ length xs → start ≤ from → from ≤ to
    → to ≤ start + length ys → new ≡ take (from - start) ys ++ others ++ drop (to - start) ys
    → xs ++ (new ++ zs) ≡ take from (xs ++ (ys ++ zs)) ++ others ++ drop to (xs ++ (ys ++ zs))
replaced_within {A} xs ys zs others new start from to is low order high e =
    ap (λ l. xs ++ (l ++ zs)) e
    ∙ ap (λ l. xs ++ l) (append_assoc (first ++ others) last zs)
    ∙ sym (append_assoc xs (first ++ others) (last ++ zs))
    ∙ ap (λ l. l ++ (last ++ zs)) (sym (append_assoc xs first others))
    ∙ (λ i. (front i ++ others) ++ back i)
  where
    first : List A
    first = take (from - start) ys

    last : List A
    last = drop (to - start) ys

    from_is : from ≡ length xs + (from - start)
    from_is = omega arith

    to_is : to ≡ length xs + (to - start)
    to_is = omega arith

    front : xs ++ first ≡ take from (xs ++ (ys ++ zs))
    front = sym (ap (λ n. take n (xs ++ (ys ++ zs))) from_is
        ∙ take-append-add xs (ys ++ zs) (from - start)
        ∙ ap (λ l. xs ++ l) (take-append-le (from - start) ys zs (omega arith)))

    back : last ++ zs ≡ drop to (xs ++ (ys ++ zs))
    back = sym (ap (λ n. drop n (xs ++ (ys ++ zs))) to_is
        ∙ drop-append-add xs (ys ++ zs) (to - start)
        ∙ drop-append-le (to - start) ys zs (omega arith))
