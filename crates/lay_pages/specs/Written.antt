-- Entries in order of their keys: those on both sides of a key, and what a write makes of them.
use Rattle.std.specs.Prelude.{◌≡◌, ℕ, ◌+◌, ◌<◌, ◌≤◌, Bool, ◌&&◌, List, [], ◌∷◌, ◌++◌, Option, None, Some, drop, filter, length, not, take}
use Rattle.std.specs.declared.cmp.Ordering.{Ordering}
use Rattle.std.specs.declared.cmp.Ordering.TheVariants.{Less}
use Rattle.std.specs.FinMap.{find}
use Rattle.std.specs.List.{AllByRecursion, HoldsAt}
use Rattle.std.specs.Ordering.{is_lt}
use denote.Ref.{Bor}
use Rattle.lay_pages.specs.Shared.{joined}

module _ {K X : Type 0} (R : K → K → Ordering) where
  abbrev pub lower : K → List (K × X) → List (K × X)
  lower k es = filter (λ e. is_lt (R e.0 k)) es

  abbrev pub higher : K → List (K × X) → List (K × X)
  higher k es = filter (λ e. is_lt (R k e.0)) es

  -- those that aren't before the key
  abbrev pub from_key : K → List (K × X) → List (K × X)
  from_key k es = filter (λ e. not (is_lt (R e.0 k))) es

  -- the key has an entry, of this index
  pub record IsFoundAt (es : List (K × X)) (k : K) (at : ℕ) : Type 0 where
    pub in_range : at < length es
    pub before : lower k es ≡ take at es
    pub after : higher k es ≡ drop (at + 1) es
    pub from : from_key k es ≡ drop at es
    pub item : HoldsAt (λ e. find R k es ≡ Some e.1) es at

  -- it has none, which would have this index
  pub record IsGapAt (es : List (K × X)) (k : K) (at : ℕ) : Type 0 where
    pub in_range : at ≤ length es
    pub before : lower k es ≡ take at es
    pub after : higher k es ≡ drop at es
    pub from : from_key k es ≡ drop at es
    pub no_item : find R k es ≡ None

  abbrev pub AllBelow : K → List (K × X) → Type 0
  AllBelow k es = AllByRecursion (λ e. R e.0 k ≡ Less) es

  abbrev pub AllAbove : K → List (K × X) → Type 0
  AllAbove k es = AllByRecursion (λ e. R k e.0 ≡ Less) es

  -- the one of the lists into which a write falls
  pub record IsPlace (k : K) (lists : List (List (K × X))) (at : ℕ) : Type 0 where
    pub in_range : at < length lists
    pub below : AllBelow k (joined (take at lists))
    pub above : AllAbove k (joined (drop (at + 1) lists))

abbrev pub first_entry : {A : Type 0} → List A → Option A
first_entry [] = None
first_entry (x ∷ xs) = Some x

abbrev pub last_entry : {A : Type 0} → List A → Option A
last_entry [] = None
last_entry (x ∷ []) = Some x
last_entry (x ∷ (y ∷ ys)) = last_entry (y ∷ ys)

-- an entry whose value is lent
abbrev pub lent_entry : {K V : Type 0} → Option (K × Bor V) → Option (K × V)
lent_entry None = None
lent_entry (Some entry) = Some (entry.0, entry.1.now)

-- what a write leaves under its key
abbrev pub written_entries : {K X : Type 0} → K → Option X → List (K × X)
written_entries k None = []
written_entries k (Some x) = (k, x) ∷ []

-- the entries after a write
abbrev pub after_write : {K X : Type 0} → (K → K → Ordering) → K → Option X → List (K × X) → List (K × X)
after_write R k x es = lower R k es ++ (written_entries k x ++ higher R k es)

-- the entries after these writes, the first of them first
abbrev pub written_all : {K X : Type 0} → (K → K → Ordering) → List (K × X) → List (K × Option X) → List (K × X)
written_all R es [] = es
written_all R es (write ∷ writes) = written_all R (after_write R write.0 write.1 es) writes

abbrev pub IsFirstKey : {K X : Type 0} → K → List (K × X) → Type 0
IsFirstKey k [] = ⊥
IsFirstKey k (e ∷ es) = e.0 ≡ k

-- how many values there are
abbrev pub count_of : {X : Type 0} → Option X → ℕ
count_of None = 0
count_of (Some x) = 1

-- the same value under the same key
abbrev pub are_equal : {K X : Type 0} → (K → K → Bool) → (X → X → Bool) → K × X → K × X → Bool
are_equal key_eq value_eq e f = key_eq e.0 f.0 && value_eq e.1 f.1
