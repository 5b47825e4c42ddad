-- How many words stand after each keyword, and the command of `clap` that counts them.
use Rattle.std.specs.Prelude.{◌≡◌, ◌≤◌, ℕ, Some, true, codes}
use Rattle.clap.specs.Words.{App, Rule, Text, new_app, new_rule, with_rule}
use Rattle.clap.specs.declared.builder.ArgAction.TheVariants.{Append}
use Rattle.shell_words.specs.declared.keyword.Keyword.{Keyword}
use Rattle.shell_words.specs.declared.keyword.Keyword.TheVariants.{Assemble, Open, Record, List as ListAll, Publish, Rehearse, Session, Big, Find, OpenId, PublishPsi, PublishOn, Mounts, Watch, Plan, Inspect, Extract, Air}

abbrev pub Fits : Keyword → ℕ → Type 0
Fits Assemble n = n ≡ 4
Fits Open n = 2 ≤ n
Fits Record n = n ≡ 1
Fits ListAll n = n ≡ 1
Fits Publish n = n ≡ 3
Fits Rehearse n = n ≡ 0
Fits Session n = n ≡ 0
Fits Big n = n ≡ 1
Fits Find n = n ≡ 1
Fits OpenId n = 2 ≤ n
Fits PublishPsi n = n ≡ 3
Fits PublishOn n = n ≡ 4
Fits Mounts n = 2 ≤ n
Fits Watch n = 2 ≤ n
Fits Plan n = n ≡ 3
Fits Inspect n = n ≡ 1
Fits Extract n = n ≡ 2
Fits Air n = n ≡ 4

-- a positional that one word is for
abbrev pub one : Text → Rule
one id = record (new_rule id) { required = true }

-- a positional that one or more words are for
abbrev pub one_or_more : Text → Rule
one_or_more id = record (new_rule id) { required = true; action = Some Append }

-- a command of one word
abbrev pub single : Text → App
single name = with_rule (new_app name) (one (codes "VALUE"))

-- one of four words
abbrev pub four_app : Text → App
four_app name = with_rule (with_rule (with_rule (with_rule (new_app name) (one (codes "FIRST"))) (one (codes "SECOND"))) (one (codes "THIRD"))) (one (codes "FOURTH"))

-- one that opens paths
abbrev pub open_app : Text → App
open_app name = with_rule (with_rule (new_app name) (one (codes "SOURCE"))) (one_or_more (codes "PATH"))

-- one of two words
abbrev pub two_app : Text → App
two_app name = with_rule (with_rule (new_app name) (one (codes "PID"))) (one (codes "FOLDER"))

-- one that publishes a folder
abbrev pub publish_app : Text → App
publish_app name = with_rule (with_rule (with_rule (new_app name) (one (codes "FOLDER"))) (one (codes "CAROUSEL"))) (one (codes "CYCLES"))

abbrev pub app_of_keyword : Keyword → App
app_of_keyword Assemble = four_app (codes "assemble")
app_of_keyword Open = open_app (codes "open")
app_of_keyword Record = single (codes "record")
app_of_keyword ListAll = single (codes "list")
app_of_keyword Publish = publish_app (codes "publish")
app_of_keyword Rehearse = new_app (codes "rehearse")
app_of_keyword Session = new_app (codes "session")
app_of_keyword Big = single (codes "big")
app_of_keyword Find = single (codes "find")
app_of_keyword OpenId = open_app (codes "open-id")
app_of_keyword PublishPsi = publish_app (codes "publish-psi")
app_of_keyword PublishOn = four_app (codes "publish-on")
app_of_keyword Mounts = open_app (codes "mounts")
app_of_keyword Watch = open_app (codes "watch")
app_of_keyword Plan = publish_app (codes "plan")
app_of_keyword Inspect = single (codes "inspect")
app_of_keyword Extract = two_app (codes "extract")
app_of_keyword Air = four_app (codes "air")
