-- What `make` and `query` ask for, from what is read for each of their options.
use Rattle.std.proofs.Common.{◌≡◌, ℕ, Bool, Option, Some, None, refl, sym}
use Rattle.std.specs.Prelude.{option_and_then}
use Rattle.clap.specs.Words.{Text, first_of, found_of, rows_of}
use Rattle.clap.specs.declared.parser.matches.ArgMatches.{ArgMatches}
use Rattle.gs_words.specs.{Requests.{is_set, make_of, query_with}, Tasks.{make, of_strategy, Query}, Values.{kind_of, number_in}, declared.kind.Kind.{Kind}}

-- the text that is given for an option
abbrev pub told : ArgMatches → Text → Option Text
told options option = first_of option (rows_of (found_of options))

module _ {word : Text} {kind : Kind} {kinds : Option Text} (given : Some word ≡ kinds) (named : Some kind ≡ kind_of word) (ranks suits caps sum : Option Text) where
  pub no_ranks : None ≡ option_and_then (number_in 1 13) ranks → None ≡ make_of kinds ranks suits caps sum
  no_ranks e = rw (sym given, sym named, sym e) refl

  module _ {rank : ℕ} (rank_is : Some rank ≡ option_and_then (number_in 1 13) ranks) where
    pub no_suits : None ≡ option_and_then (number_in 1 4) suits → None ≡ make_of kinds ranks suits caps sum
    no_suits e = rw (sym given, sym named, sym rank_is, sym e) refl

    module _ {suit : ℕ} (suit_is : Some suit ≡ option_and_then (number_in 1 4) suits) where
      pub no_cap : None ≡ option_and_then (number_in 0 8) caps → None ≡ make_of kinds ranks suits caps sum
      no_cap e = rw (sym given, sym named, sym rank_is, sym suit_is, sym e) refl

      pub makes : {cap : ℕ} {summary : Bool} → Some cap ≡ option_and_then (number_in 0 8) caps → summary ≡ is_set sum
          → Some (make (record { kind = kind; ranks = rank; suits = suit; cap = cap; summary = summary })) ≡ make_of kinds ranks suits caps sum
      makes e told = rw (sym given, sym named, sym rank_is, sym suit_is, sym e, told) refl

module _ {player : ℕ} (players lines signals : Option Text) (player_is : Some player ≡ option_and_then (number_in 1 2) players) where
  pub no_line : None ≡ lines → None ≡ query_with (option_and_then (number_in 1 2) players) lines signals
  no_line e = rw (sym player_is, sym e) refl

  module _ {line : Text} (line_is : Some line ≡ lines) where
    pub no_signal : None ≡ signals → None ≡ query_with (option_and_then (number_in 1 2) players) lines signals
    no_signal e = rw (sym player_is, sym line_is, sym e) refl

    pub queries : {signal : Text} → Some signal ≡ signals → Some (of_strategy (Query player line signal)) ≡ query_with (option_and_then (number_in 1 2) players) lines signals
    queries e = rw (sym player_is, sym line_is, sym e) refl
