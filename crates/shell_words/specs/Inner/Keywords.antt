-- What the words after each keyword say.
use Rattle.std.specs.Prelude.{List, Option, Some, None}
use Rattle.path_tree.specs.Paths.{Bytes}
use Rattle.shell_words.specs.Words as commands
use Rattle.shell_words.specs.Words.{Named}
use Rattle.shell_words.specs.declared.keyword.Keyword.{Keyword}
use Rattle.shell_words.specs.declared.keyword.Keyword.TheVariants.{Assemble, Open, Record, List as ListAll, Publish, Rehearse, Session, Big, Find, OpenId, PublishPsi, PublishOn, Mounts, Watch, Plan, Inspect, Extract, Air}

abbrev pub words_by : Keyword → List Bytes → Option Named
words_by Assemble words = commands.assemble_by words
words_by Open words = commands.open_by words
words_by Record words = commands.record_by words
words_by ListAll words = commands.list_by words
words_by Publish words = commands.publish_by words
words_by Rehearse words = commands.rehearse_by words
words_by Session words = commands.session_by words
words_by Big words = commands.big_by words
words_by Find words = commands.find_by words
words_by OpenId words = commands.open_id_by words
words_by PublishPsi words = commands.publish_psi_by words
words_by PublishOn words = commands.publish_on_by words
words_by Mounts words = commands.mounts_by words
words_by Watch words = commands.watch_by words
words_by Plan words = commands.plan_by words
words_by Inspect words = commands.inspect_by words
words_by Extract words = commands.extract_by words
words_by Air words = commands.air_by words

-- what the words after the first one say, where that is a keyword
abbrev pub words_after : List Bytes → Option Keyword → Option Named
words_after words (Some keyword) = words_by keyword words
words_after words None = None
