-- Where a comment closes: what the cut says of semicolons behind it.
use Rattle.std.proofs.Common.{◌≡◌, ℕ, zero, suc, ◌+◌, Bool, true, false, cond, List, [], ◌∷◌, take, Option, Some, None, refl, sym, ap, ◌∙◌}
use Rattle.std.proofs.Common.{arith, inl, inr, subst}
use Rattle.std.specs.Prelude.{◌==◌, not, ◌&&◌}
use Rattle.std.specs.List.{list_all}
use Rattle.std.proofs.lemmas.Bool.Decides.{nat_tests}
use Rattle.std.proofs.lemmas.Option.{none-some, same_Some}
use Rattle.cif_grammar.specs.Comments.{behind_closing}
use Rattle.cif_grammar.specs.Cutting.{command_len, first_depth, next_depth, semicolon_from}
use Rattle.cif_grammar.proofs.ByteClasses.{is_plain}
use Rattle.cif_grammar.proofs.CutGrammar.{plain_piece}
use Rattle.byte_io.proofs.Steps.{chosen_of}
use Rattle.cif_laws.specs.Refusals.{IsOutside}

-- outside parentheses no byte is a semicolon, where none is found
pub plain_behind : (place : ℕ) (bytes : List ℕ) → semicolon_from place 0 bytes ≡ None → list_all is_plain bytes ≡ true
unfolding semicolon_from
plain_behind place [] none = refl
plain_behind place (b ∷ bs) none = by (b == 59) none (plain_behind (place + 1) bs) where
  by : (semicolon : Bool) → cond semicolon (Some place) (semicolon_from (place + 1) 0 bs) ≡ None
      → (semicolon_from (place + 1) 0 bs ≡ None → list_all is_plain bs ≡ true) → (not semicolon && list_all is_plain bs) ≡ true
  by true e rest = absurd (let no : ◌≡◌ {A = Option ℕ} (Some place) None = e in cc)
  by false e rest = rest e

-- inside parentheses a byte is passed
passed : (place depth next b : ℕ) (bs : List ℕ) → next_depth (suc depth) b ≡ next
    → semicolon_from place (suc depth) (b ∷ bs) ≡ semicolon_from (place + 1) next bs
unfolding semicolon_from
passed place depth next b bs is =
    let deep : (suc depth == 0) ≡ false = grind (arith, nat_tests) in
    rw deep (ap (λ d. semicolon_from (place + 1) d bs) is)

closing : (depth b : ℕ) → (b == 41) ≡ true → next_depth (suc depth) b ≡ depth
closing depth b close =
    let no_open : (b == 40) ≡ false = grind (arith, nat_tests) in
    rw (no_open, close) refl

opening : (depth b : ℕ) → (b == 40) ≡ true → next_depth (suc depth) b ≡ suc (suc depth)
opening depth b opens = rw opens refl

going : (depth b : ℕ) → (b == 41) ≡ false → (b == 40) ≡ false → next_depth (suc depth) b ≡ suc depth
going depth b no_close no_open = rw (no_open, no_close) refl

-- where no semicolon is found, none stands behind the parenthesis that closes the outermost
pub none_closes : (depth place : ℕ) (bs behind : List ℕ) → semicolon_from place (suc depth) bs ≡ None
    → behind_closing depth bs ≡ Some behind → list_all is_plain behind ≡ true
unfolding behind_closing
none_closes depth place [] behind none closed = absurd (none-some behind closed)
none_closes zero place (b ∷ bs) behind none closed =
    elim (chosen_of (b == 41) _ _ (Some behind) closed) [
      | inl close ↦
          subst (λ t. list_all is_plain t ≡ true) (same_Some bs behind close.1)
          (plain_behind (place + 1) bs (sym (passed place 0 0 b bs (closing 0 b close.0)) ∙ none))
      | inr no_close ↦ elim (chosen_of (b == 40) _ _ (Some behind) no_close.1) [
        | inl opens ↦ none_closes 1 (place + 1) bs behind (sym (passed place 0 2 b bs (opening 0 b opens.0)) ∙ none) opens.1
        | inr on ↦ none_closes 0 (place + 1) bs behind (sym (passed place 0 1 b bs (going 0 b no_close.0 on.0)) ∙ none) on.1
      ]
    ]
none_closes (suc depth) place (b ∷ bs) behind none closed =
    elim (chosen_of (b == 41) _ _ (Some behind) closed) [
      | inl close ↦
          none_closes depth (place + 1) bs behind
          (sym (passed place (suc depth) (suc depth) b bs (closing (suc depth) b close.0)) ∙ none) close.1
      | inr no_close ↦ elim (chosen_of (b == 40) _ _ (Some behind) no_close.1) [
        | inl opens ↦
            none_closes (suc (suc depth)) (place + 1) bs behind
            (sym (passed place (suc depth) (suc (suc (suc depth))) b bs (opening (suc depth) b opens.0)) ∙ none) opens.1
        | inr on ↦
            none_closes (suc depth) (place + 1) bs behind
            (sym (passed place (suc depth) (suc (suc depth)) b bs (going (suc depth) b no_close.0 on.0)) ∙ none) on.1
      ]
    ]

-- a semicolon that is found is at so many bytes from the first
count_of : (place : ℕ) (bs : List ℕ) (at : ℕ) → semicolon_from place 0 bs ≡ Some at → (n : ℕ) × (at ≡ place + n)
unfolding semicolon_from
count_of place [] at e = absurd (none-some at e)
count_of place (b ∷ bs) at e =
    elim (chosen_of (b == 59) (Some place) (semicolon_from (place + 1) 0 bs) (Some at) e) [
      | inl here ↦ (0, sym (same_Some place at here.1) ∙ omega arith)
      | inr on ↦ let found = count_of (place + 1) bs at on.1 in (suc found.0, found.1 ∙ omega arith)
    ]

in_nothing : (place depth at : ℕ) → semicolon_from place depth [] ≡ Some at → ◌≡◌ {A = Option ℕ} None (Some at)
unfolding semicolon_from
in_nothing place depth at e = e

-- before a semicolon that is found the outermost parenthesis is closed
closes : (depth place : ℕ) (bs : List ℕ) (at : ℕ) → semicolon_from place (suc depth) bs ≡ Some at
    → (n : ℕ) × (at ≡ place + n) × (behind : List ℕ) × (behind_closing depth (take n bs) ≡ Some behind)
unfolding behind_closing
closes depth place [] at e = absurd (none-some at (in_nothing place (suc depth) at e))
closes depth place (b ∷ bs) at e = by depth (λ d h. closes d (place + 1) bs at h) (b == 41) refl (b == 40) refl e where
  Further : Type 0
  Further = (d : ℕ) → semicolon_from (place + 1) (suc d) bs ≡ Some at
      → (n : ℕ) × (at ≡ place + 1 + n) × (behind : List ℕ) × (behind_closing d (take n bs) ≡ Some behind)

  -- what is found behind the byte is found with it
  behind_byte : (depth next : ℕ) → ((left : List ℕ) → behind_closing depth (b ∷ left) ≡ behind_closing next left)
      → ((n : ℕ) × (at ≡ place + 1 + n) × (behind : List ℕ) × (behind_closing next (take n bs) ≡ Some behind))
      → (n : ℕ) × (at ≡ place + n) × (behind : List ℕ) × (behind_closing depth (take n (b ∷ bs)) ≡ Some behind)
  behind_byte depth next is (n, found, behind, closed) = (suc n, found ∙ omega arith, behind, is (take n bs) ∙ closed)

  by : (depth : ℕ) → Further → (close : Bool) → (b == 41) ≡ close → (opens : Bool) → (b == 40) ≡ opens
      → semicolon_from place (suc depth) (b ∷ bs) ≡ Some at
      → (n : ℕ) × (at ≡ place + n) × (behind : List ℕ) × (behind_closing depth (take n (b ∷ bs)) ≡ Some behind)
  by zero further true c opens o e =
      let found = count_of (place + 1) bs at (sym (passed place 0 0 b bs (closing 0 b c)) ∙ e) in
      (suc found.0, found.1 ∙ omega arith, take found.0 bs, rw c refl)
  by (suc depth) further true c opens o e =
      behind_byte (suc depth) depth (λ left. rw c refl)
      (further depth (sym (passed place (suc depth) (suc depth) b bs (closing (suc depth) b c)) ∙ e))
  by zero further false c true o e =
      behind_byte 0 1 (λ left. rw (c, o) refl) (further 1 (sym (passed place 0 2 b bs (opening 0 b o)) ∙ e))
  by (suc depth) further false c true o e =
      behind_byte (suc depth) (suc (suc depth)) (λ left. rw (c, o) refl)
      (further (suc (suc depth))
      (sym (passed place (suc depth) (suc (suc (suc depth))) b bs (opening (suc depth) b o)) ∙ e))
  by zero further false c false o e =
      behind_byte 0 0 (λ left. rw (c, o) refl) (further 0 (sym (passed place 0 1 b bs (going 0 b c o)) ∙ e))
  by (suc depth) further false c false o e =
      behind_byte (suc depth) (suc depth) (λ left. rw (c, o) refl)
      (further (suc depth) (sym (passed place (suc depth) (suc (suc depth)) b bs (going (suc depth) b c o)) ∙ e))

-- a command's semicolon stands outside of a comment
pub outside : (rest : List ℕ) (len : ℕ) → command_len rest ≡ Some len → IsOutside (take len rest)
unfolding command_len
outside [] len e more is = absurd (none-some len e)
outside (b ∷ bs) len e more is =
    let piece = plain_piece b bs len e in
    let front : b ∷ take piece.0 bs ≡ 40 ∷ more = sym (ap (λ n. take n (b ∷ bs)) piece.1) ∙ is in
    let first : b ≡ 40 = cc in
    let behind : take piece.0 bs ≡ more = cc in
    let opened : semicolon_from 1 1 bs ≡ Some len = sym (ap (λ c. semicolon_from 1 (first_depth c) bs) first) ∙ e in
    let found = closes 0 1 bs len opened in
    let same : piece.0 ≡ found.0 = omega (arith, found.1, piece.1) in
    (found.2, ap (behind_closing 0) (sym behind) ∙ ap (λ n. behind_closing 0 (take n bs)) same ∙ found.3)
