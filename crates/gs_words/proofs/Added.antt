-- One option more, and one command more.
use Rattle.std.proofs.Common.{◌≡◌, ◌++◌, ◌||◌, ℕ, ◌+◌, ◌<◌, List, [], ◌∷◌, Bool, false, refl, ap, sym, subst, ◌∙◌, fold, map, length, take, get_or, add-one}
use Rattle.std.proofs.{Math.Seq.{take-length, take-suc}, lemmas.List.{map_more}, lemmas.List.Sums.{fold-append}}
use Rattle.clap.specs.{Words.{AddsArg, AddsSubcommand, App, Rule, rule_of, shape_of, with_rule, with_subcommand}, declared.builder.arg.Arg.{Arg}}
use Rattle.clap.specs.declared.builder.command.Command.{Command}
use Rattle.gs_words.specs.{Program.{Is, app_for, bare, rule_by, with_commands}, declared.command.Choice.{Choice}, declared.names.CommandName.{CommandName}}

neither : (a b : Bool) → a ≡ false → b ≡ false → (a || b) ≡ false
neither a b e f = rw (e, f) refl

-- a command with an option behind those that it had
with_one : (app : App) (r : Rule) (old new : Command) (a : Arg) → Is app old → rule_of a ≡ r → a.global ≡ false → AddsArg old a new
    → Is (with_rule app r) new
with_one app r old new a is rule local adds =
    (adds.shape local ∙ (ap (λ (x : App). with_rule x (rule_of a)) is.0 ∙ ap (λ (q : Rule). with_rule app q) rule), adds.globals ∙ neither _ _ is.1 local)

-- a command with the options up to a place, and the one there
pub with_next : (app : App) (choices : List Choice) (i : ℕ) (d : Choice) (old new : Command) (a : Arg) → i < length choices
    → Is (fold with_rule app (map rule_by (take i choices))) old → rule_of a ≡ rule_by (get_or choices i d) → a.global ≡ false → AddsArg old a new
    → Is (fold with_rule app (map rule_by (take (i + 1) choices))) new
with_next app choices i d old new a lt is rule local adds =
    let before = map rule_by (take i choices) in
    let one = rule_by (get_or choices i d) in
    let all : fold with_rule app (map rule_by (take (i + 1) choices)) ≡ with_rule (fold with_rule app before) one
    = ap (fold with_rule app) (map_more rule_by choices i d lt) ∙ fold-append with_rule app before (one ∷ []) in
    subst (λ (x : App). Is x new) (sym all) (with_one (fold with_rule app before) one old new a is rule local adds)

-- a command behind those that were there
behind : (names : List CommandName) (c : CommandName) → with_commands (names ++ c ∷ []) ≡ with_subcommand (with_commands names) (app_for c).top
behind names c = fold-append (λ (app : App) (n : CommandName). with_subcommand app (app_for n).top) bare names (c ∷ [])

pub added : (names : List CommandName) (c : CommandName) (old sub new : Command) → Is (with_commands names) old → Is (app_for c) sub
    → AddsSubcommand old sub new → Is (with_commands (names ++ c ∷ [])) new
added names c old sub new is one adds = (
  adds.shape one.1 ∙ (ap (λ (a : App). with_subcommand a (shape_of sub)) is.0
      ∙ (ap (λ (a : App). with_subcommand (with_commands names) a.top) one.0 ∙ sym (behind names c))),
  adds.globals ∙ neither _ _ is.1 one.1,
)

-- the commands up to a place, and the one there
pub next : (names : List CommandName) (i : ℕ) (d : CommandName) (new : Command) → i < length names
    → Is (with_commands (take i names ++ get_or names i d ∷ [])) new → Is (with_commands (take (i + 1) names)) new
next names i d new lt is = subst (λ (cs : List CommandName). Is (with_commands cs) new) (sym (ap (λ n. take n names) (add-one i) ∙ take-suc names i d lt)) is

-- all of them
pub all_of : (names : List CommandName) (i : ℕ) (new : Command) → i ≡ length names → Is (with_commands (take i names)) new → Is (with_commands names) new
all_of names i new e is =
    subst (λ (cs : List CommandName). Is (with_commands cs) new) (take-length names) (subst (λ n. Is (with_commands (take n names)) new) e is)
