-- What is kept stays so with a longer log.
use Rattle.std.proofs.Common.{◌≡◌, ℕ, ◌≤◌, zero, suc, Bool, true, false, List, [], ◌∷◌, ◌++◌}
use Rattle.std.proofs.Common.{length, drop, Option, None, Some, refl, ap, ◌∙◌, arith, slice_get}
use Rattle.std.specs.Prelude.{MatchBool}
use Rattle.std.proofs.lemmas.List.Elements.{filter_map-append}
use Rattle.lay_layouts.specs.Layout.{Layout}
use Rattle.txn_commands.specs.declared.command.Command.{Command}
use Rattle.undo_rules.specs.declared.log.Logged.{Logged}
use Rattle.undo_rules.specs.Books.{changed_among, changed_in}
use Rattle.undo_rules.specs.Histories.{AreKept, AreRooted, Chain, RunsBetween, commands_at, commands_in}
use Rattle.undo_rules.specs.Links.{Entry, Trace, trace_of}

pub get-push : {X : Type 0} (xs : List X) (x : X) (i : ℕ) (y : X) → slice_get xs i ≡ Some y → slice_get (xs ++ x ∷ []) i ≡ Some y
get-push [] x i y h = absurd cc
get-push (z ∷ xs) x zero y h = h
get-push (z ∷ xs) x (suc i) y h = get-push xs x i y h

told_longer : (log : List Logged) (call : Logged) (place : ℕ) (commands : List Command) → commands_at log place ≡ Some commands →
    commands_at (log ++ call ∷ []) place ≡ Some commands
told_longer log call place commands h = by (slice_get log place) refl h where
  by : (at : Option Logged) → slice_get log place ≡ at → commands_in at ≡ Some commands
      → commands_at (log ++ call ∷ []) place ≡ Some commands
  by None is h = absurd cc
  by (Some there) is h = ap commands_in (get-push log call place there is) ∙ h

pub ran_longer : (log : List Logged) (call : Logged) (entry : Entry) (l m : Layout) → RunsBetween log entry l m
    → RunsBetween (log ++ call ∷ []) entry l m
ran_longer log call entry l m ran = record {
  commands = ran.commands;
  run = ran.run;
  told = told_longer log call entry.place ran.commands ran.told;
  runs = ran.runs;
  after_is = ran.after_is;
  writes = ran.writes;
  footprint = ran.footprint;
}

chain_longer : (log : List Logged) (call : Logged) (entries : List Entry) (first last : Layout) → Chain log first entries last →
    Chain (log ++ call ∷ []) first entries last
chain_longer log call [] first last chain = chain
chain_longer log call (entry ∷ entries) first last chain = by entry.live chain (λ l. chain_longer log call entries l last) where
  by : (live : Bool) → MatchBool live ((next : Layout) × RunsBetween log entry first next × Chain log next entries last)
      (Chain log first entries last)
      → ((l : Layout) → Chain log l entries last → Chain (log ++ call ∷ []) l entries last)
      → MatchBool live ((next : Layout) × RunsBetween (log ++ call ∷ []) entry first next × Chain (log ++ call ∷ []) next entries last)
      (Chain (log ++ call ∷ []) first entries last)
  by true (next, ran, rest) longer = (next, ran_longer log call entry first next ran, longer next rest)
  by false rest longer = longer first rest

rooted_longer : (log : List Logged) (call : Logged) (base : Layout) (earlier : List Trace) (ms : List Bool) (entries : List Entry) →
    AreRooted log base earlier ms entries → AreRooted (log ++ call ∷ []) base earlier ms entries
rooted_longer log call base earlier ms [] rooted = tt
rooted_longer log call base earlier ms (entry ∷ entries) (root, links, rest) = (
  record {
    marks = root.marks;
    count = root.count;
    before = root.before;
    after = root.after;
    sound = root.sound;
    laid = root.laid;
    ran = ran_longer log call entry root.before root.after root.ran;
    seen = root.seen;
  },
  links,
  rooted_longer log call base (earlier ++ trace_of entry ∷ []) (ms ++ entry.live ∷ []) entries rest,
)

pub kept_longer : (log : List Logged) (call : Logged) (base layout : Layout) (entries : List Entry) → AreKept log base layout entries →
    AreKept (log ++ call ∷ []) base layout entries
kept_longer log call base layout entries kept = record {
  chain = chain_longer log call entries base layout kept.chain;
  rooted = rooted_longer log call base [] [] entries kept.rooted;
  named = kept.named;
}

-- ---- what the calls changed

pub drop_longer : {X : Type 0} (n : ℕ) (xs : List X) (x : X) → n ≤ length xs → drop n (xs ++ x ∷ []) ≡ drop n xs ++ x ∷ []
drop_longer zero xs x h = refl
drop_longer (suc n) [] x h = absurd (omega (arith, h))
drop_longer (suc n) (y ∷ xs) x h = drop_longer n xs x (omega (arith, h))

pub changed_longer : (calls : List Logged) (call : Logged)
    → changed_among (calls ++ call ∷ []) ≡ changed_among calls ++ changed_among (call ∷ [])
changed_longer calls call = filter_map-append changed_in calls (call ∷ [])
