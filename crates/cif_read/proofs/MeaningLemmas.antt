-- The meaning of a rest of a text goes on command by command.
use Rattle.std.proofs.Common.{◌≡◌, ℕ, true, false, List, [], ◌∷◌, length, take, Option, Some, None}
use Rattle.std.proofs.Common.{Result, Ok, Err, refl, sym, ap, ◌∙◌, inl, inr, cond, Bool, IfOk, subst}
use Rattle.std.proofs.lemmas.Bool.{eqb-true}
use Rattle.lay_point.specs.Memory.{IsAnswer}
use Rattle.cif_grammar.specs.Bytes.{is_blank, is_gap, skip}
use Rattle.cif_grammar.specs.Cutting.{Breaks, CommandOf, EndOf, Ends, Front}
use Rattle.cif_grammar.specs.Cutting.{behind_command, command_len, cut, cut_by, cut_rest, first_offset}
use Rattle.cif_grammar.specs.Cutting.{front_of, offset_of}
use Rattle.cif_grammar.proofs.CutLemmas.{cut_rest-step}
use Rattle.cif_read.specs.declared.content.Content.{Content}
use Rattle.cif_read.specs.declared.fault.CifFault.{CifFault}
use Rattle.cif_read.specs.declared.fault.FaultKind.TheVariants.{Syntax}
use Rattle.cif_read.specs.Content.{empty_content, is_inside}
use Rattle.cif_read.specs.Meaning.{after_bytes, after_cut, after_end, after_pieces, at_ending, begins_with_end, content_in, fault_at}
use Rattle.cif_read.specs.Steps.{and_then}

-- what a rest means after what came before it
abbrev pub rest_means : Content → ℕ → List ℕ → Result Content CifFault
rest_means content total rest = after_cut content (cut_rest total rest)

-- what a rest with this front means
abbrev pub means_by : Content → ℕ → List ℕ → Front → Result Content CifFault
means_by content total rest (EndOf ending) = at_ending content ending
means_by content total rest (CommandOf len) = and_then (after_bytes content (offset_of total rest) (take len rest))
    (λ next. rest_means next total (behind_command len rest))

by_cut : (content : Content) (total : ℕ) (rest : List ℕ) (front : Front)
    → after_cut content (cut_by total rest front (λ len. cut_rest total (behind_command len rest))) ≡ means_by content total rest front
unfolding after_pieces
by_cut content total rest (EndOf ending) = refl
by_cut content total rest (CommandOf len) = refl

pub rest_means-step : (content : Content) (total : ℕ) (rest : List ℕ) (front : Front) → front_of total rest ≡ front
    → rest_means content total rest ≡ means_by content total rest front
rest_means-step content total rest front e = ap (after_cut content) (cut_rest-step total rest)
    ∙ by_cut content total rest (front_of total rest) ∙ ap (means_by content total rest) e

-- the text behind its first gap means what the text means
pub start_means : (text : List ℕ) → rest_means empty_content (length text) (skip is_gap text) ≡ content_in text
unfolding content_in cut
start_means text = refl

-- the whole means what the rest does by its front
pub whole_means : (content : Content) (total : ℕ) (rest : List ℕ) (front : Front) (whole : Result Content CifFault)
    → front_of total rest ≡ front → rest_means content total rest ≡ whole → whole ≡ means_by content total rest front
whole_means content total rest front whole e so_far = sym so_far ∙ rest_means-step content total rest front e

-- ---- fronts

pub front_end : (total : ℕ) (rest behind : List ℕ) → rest ≡ 69 ∷ behind
    → front_of total rest ≡ EndOf (Ends (offset_of total rest) (first_offset total (skip is_blank behind)))
unfolding front_of
front_end total [] behind e = absurd cc
front_end total (b ∷ bs) behind e =
    let first : b ≡ 69 = cc in
    let same : bs ≡ behind = cc in
    rw (first, same) refl

-- nothing else is meant at the end of a text that has no fault
pub at_end : (content next : Content) (offset : ℕ) (behind : Option ℕ) → at_ending content (Ends offset behind) ≡ Ok next
    → (is_inside content.definition ≡ false) × (behind ≡ None) × (content ≡ next)
at_end content next offset behind e = by (is_inside content.definition) behind e where
  no : (f : CifFault) (x : Content) → ◌≡◌ {A = Result Content CifFault} (Err f) (Ok x) → ⊥
  no f x h = cc

  by : (inside : Bool) (o : Option ℕ) → cond inside (fault_at Syntax offset) (after_end content o) ≡ Ok next
      → (inside ≡ false) × (o ≡ None) × (content ≡ next)
  by true o e = absurd (no _ next e)
  by false None e = (refl, refl, cc)
  by false (Some p) e = absurd (no _ next e)

pub at_end_keeps : (P : Content → Type 0) (content : Content) (offset : ℕ) (behind : Option ℕ) (result : Result Content CifFault)
    → result ≡ at_ending content (Ends offset behind) → P content → IfOk result P
at_end_keeps P content offset behind (Ok next) e p = subst P (at_end content next offset behind (sym e)).2 p
at_end_keeps P content offset behind (Err fault) e p = tt

pub front_breaks : (total : ℕ) (rest : List ℕ) → begins_with_end rest ≡ false → command_len rest ≡ None
    → front_of total rest ≡ EndOf (Breaks (offset_of total rest))
unfolding front_of
front_breaks total [] no_end none = refl
front_breaks total (b ∷ bs) no_end none = rw (no_end, none) refl

pub front_command : (total : ℕ) (rest : List ℕ) (len : ℕ) → begins_with_end rest ≡ false → command_len rest ≡ Some len
    → front_of total rest ≡ CommandOf len
unfolding front_of command_len
front_command total [] len no_end some = absurd (no_len len some) where
  no_len : (n : ℕ) → command_len [] ≡ Some n → ⊥
  no_len n e = cc
front_command total (b ∷ bs) len no_end some = rw (no_end, some) refl

-- what begins with the end has it, and a rest behind it
pub end_parts : (rest : List ℕ) → begins_with_end rest ≡ true → (behind : List ℕ) × (rest ≡ 69 ∷ behind)
end_parts [] e = absurd cc
end_parts (b ∷ bs) e = (bs, ap (λ c. c ∷ bs) (eqb-true b 69 e))

-- a result that is a value is the wanted one
pub value_wanted : {T E : Type 0} (no_memory : E) (x : T) (wanted : Result T E) → IsAnswer no_memory (Ok x) wanted → wanted ≡ Ok x
value_wanted no_memory x wanted (inl e) = absurd cc
value_wanted no_memory x wanted (inr e) = sym e

-- a fault of a step is one of the whole that has its faults
pub fault_wanted : {A B E : Type 0} (no_memory fault : E) (step : Result A E) (whole : Result B E)
    → ((f : E) → step ≡ Err f → whole ≡ Err f) → IsAnswer no_memory (Err fault) step → IsAnswer no_memory (Err fault) whole
fault_wanted no_memory fault step whole same (inl e) = inl (let f : no_memory ≡ fault = cc in cc)
fault_wanted no_memory fault step whole same (inr e) = inr (sym (same fault (sym e)))
