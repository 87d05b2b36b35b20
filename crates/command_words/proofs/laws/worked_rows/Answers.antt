use Rattle.std.proofs.Common.{refl}
use Rattle.clap.proofs.OnLiterals.{clap_on_literals}
use Rattle.command_words.specs.Words.{command_of}
use Rattle.command_words.proofs.laws.worked_rows.Goals as goal

pub returns-clause-list : goal.returns-clause-list
unfolding command_of clap_on_literals
returns-clause-list c = λ name. refl

pub returns-clause-nothing : goal.returns-clause-nothing
unfolding command_of clap_on_literals
returns-clause-nothing c = refl

pub returns-clause-no_word : goal.returns-clause-no_word
unfolding command_of clap_on_literals
returns-clause-no_word c = λ name. refl

pub returns-clause-a_word_more : goal.returns-clause-a_word_more
unfolding command_of clap_on_literals
returns-clause-a_word_more c = λ name. refl

pub returns-clause-twice : goal.returns-clause-twice
unfolding command_of clap_on_literals
returns-clause-twice c = λ name. refl

pub returns-clause-unknown_word : goal.returns-clause-unknown_word
unfolding command_of clap_on_literals
returns-clause-unknown_word c = λ name. refl

pub returns-clause-empty_word : goal.returns-clause-empty_word
unfolding command_of clap_on_literals
returns-clause-empty_word c = λ name. refl

pub returns-clause-help : goal.returns-clause-help
unfolding command_of clap_on_literals
returns-clause-help c = λ name. refl

pub returns-clause-short_help : goal.returns-clause-short_help
unfolding command_of clap_on_literals
returns-clause-short_help c = λ name. refl

pub returns-clause-help_word : goal.returns-clause-help_word
unfolding command_of clap_on_literals
returns-clause-help_word c = λ name. refl

pub returns-clause-help_of_list : goal.returns-clause-help_of_list
unfolding command_of clap_on_literals
returns-clause-help_of_list c = λ name. refl

pub returns-clause-version : goal.returns-clause-version
unfolding command_of clap_on_literals
returns-clause-version c = λ name. refl

pub returns-clause-an_option : goal.returns-clause-an_option
unfolding command_of clap_on_literals
returns-clause-an_option c = λ name. refl

pub returns-clause-after_dashes : goal.returns-clause-after_dashes
unfolding command_of clap_on_literals
returns-clause-after_dashes c = λ name. refl

pub returns-clause-before_dashes : goal.returns-clause-before_dashes
unfolding command_of clap_on_literals
returns-clause-before_dashes c = λ name. refl

pub returns-clause-decode : goal.returns-clause-decode
unfolding command_of clap_on_literals
returns-clause-decode c = λ name. refl

pub returns-clause-plain : goal.returns-clause-plain
unfolding command_of clap_on_literals
returns-clause-plain c = λ name. refl

pub returns-clause-workers : goal.returns-clause-workers
unfolding command_of clap_on_literals
returns-clause-workers c = λ name. refl

pub returns-clause-one_worker : goal.returns-clause-one_worker
unfolding command_of clap_on_literals
returns-clause-one_worker c = λ name. refl

pub returns-clause-window : goal.returns-clause-window
unfolding command_of clap_on_literals
returns-clause-window c = λ name. refl

pub returns-clause-least_window : goal.returns-clause-least_window
unfolding command_of clap_on_literals
returns-clause-least_window c = λ name. refl

pub returns-clause-all_options : goal.returns-clause-all_options
unfolding command_of clap_on_literals
returns-clause-all_options c = λ name. refl

pub returns-clause-no_workers : goal.returns-clause-no_workers
unfolding command_of clap_on_literals
returns-clause-no_workers c = λ name. refl

pub returns-clause-many_workers : goal.returns-clause-many_workers
unfolding command_of clap_on_literals
returns-clause-many_workers c = λ name. refl

pub returns-clause-small_window : goal.returns-clause-small_window
unfolding command_of clap_on_literals
returns-clause-small_window c = λ name. refl

pub returns-clause-large_window : goal.returns-clause-large_window
unfolding command_of clap_on_literals
returns-clause-large_window c = λ name. refl

pub returns-clause-without_value : goal.returns-clause-without_value
unfolding command_of clap_on_literals
returns-clause-without_value c = λ name. refl

pub returns-clause-no_number : goal.returns-clause-no_number
unfolding command_of clap_on_literals
returns-clause-no_number c = λ name. refl

pub returns-clause-twice_plain : goal.returns-clause-twice_plain
unfolding command_of clap_on_literals
returns-clause-twice_plain c = λ name. refl

pub returns-clause-plain_with_value : goal.returns-clause-plain_with_value
unfolding command_of clap_on_literals
returns-clause-plain_with_value c = λ name. refl

pub returns-clause-twice_workers : goal.returns-clause-twice_workers
unfolding command_of clap_on_literals
returns-clause-twice_workers c = λ name. refl

pub returns-clause-a_file : goal.returns-clause-a_file
unfolding command_of clap_on_literals
returns-clause-a_file c = λ name. refl

pub returns-clause-option_before : goal.returns-clause-option_before
unfolding command_of clap_on_literals
returns-clause-option_before c = λ name. refl

pub returns-clause-help_of_decode : goal.returns-clause-help_of_decode
unfolding command_of clap_on_literals
returns-clause-help_of_decode c = λ name. refl

pub returns-clause-make : goal.returns-clause-make
unfolding command_of clap_on_literals
returns-clause-make c = λ name. refl

pub returns-clause-greatest_make : goal.returns-clause-greatest_make
unfolding command_of clap_on_literals
returns-clause-greatest_make c = λ name. refl

pub returns-clause-make_with_plus : goal.returns-clause-make_with_plus
unfolding command_of clap_on_literals
returns-clause-make_with_plus c = λ name. refl

pub returns-clause-large_number : goal.returns-clause-large_number
unfolding command_of clap_on_literals
returns-clause-large_number c = λ name. refl

pub returns-clause-no_frames : goal.returns-clause-no_frames
unfolding command_of clap_on_literals
returns-clause-no_frames c = λ name. refl

pub returns-clause-many_frames : goal.returns-clause-many_frames
unfolding command_of clap_on_literals
returns-clause-many_frames c = λ name. refl

pub returns-clause-number_alone : goal.returns-clause-number_alone
unfolding command_of clap_on_literals
returns-clause-number_alone c = λ name. refl

pub returns-clause-make_alone : goal.returns-clause-make_alone
unfolding command_of clap_on_literals
returns-clause-make_alone c = λ name. refl

pub returns-clause-three_numbers : goal.returns-clause-three_numbers
unfolding command_of clap_on_literals
returns-clause-three_numbers c = λ name. refl

pub returns-clause-less_than_0 : goal.returns-clause-less_than_0
unfolding command_of clap_on_literals
returns-clause-less_than_0 c = λ name. refl

pub returns-clause-make_no_number : goal.returns-clause-make_no_number
unfolding command_of clap_on_literals
returns-clause-make_no_number c = λ name. refl

pub returns-clause-raw : goal.returns-clause-raw
unfolding command_of clap_on_literals
returns-clause-raw c = λ name. refl

pub returns-clause-md5 : goal.returns-clause-md5
unfolding command_of clap_on_literals
returns-clause-md5 c = λ name. refl

pub returns-clause-y4m : goal.returns-clause-y4m
unfolding command_of clap_on_literals
returns-clause-y4m c = λ name. refl

pub returns-clause-format_and_plain : goal.returns-clause-format_and_plain
unfolding command_of clap_on_literals
returns-clause-format_and_plain c = λ name. refl

pub returns-clause-unknown_format : goal.returns-clause-unknown_format
unfolding command_of clap_on_literals
returns-clause-unknown_format c = λ name. refl

pub returns-clause-upper_case_format : goal.returns-clause-upper_case_format
unfolding command_of clap_on_literals
returns-clause-upper_case_format c = λ name. refl

pub returns-clause-front_of_a_format : goal.returns-clause-front_of_a_format
unfolding command_of clap_on_literals
returns-clause-front_of_a_format c = λ name. refl

pub returns-clause-twice_format : goal.returns-clause-twice_format
unfolding command_of clap_on_literals
returns-clause-twice_format c = λ name. refl

pub returns-clause-format_without_value : goal.returns-clause-format_without_value
unfolding command_of clap_on_literals
returns-clause-format_without_value c = λ name. refl

pub returns-clause-empty_format : goal.returns-clause-empty_format
unfolding command_of clap_on_literals
returns-clause-empty_format c = λ name. refl

pub returns-clause-trial : goal.returns-clause-trial
unfolding command_of clap_on_literals
returns-clause-trial c = λ name. refl

pub returns-clause-greatest_trial : goal.returns-clause-greatest_trial
unfolding command_of clap_on_literals
returns-clause-greatest_trial c = λ name. refl

pub returns-clause-trial_without_frames : goal.returns-clause-trial_without_frames
unfolding command_of clap_on_literals
returns-clause-trial_without_frames c = λ name. refl

pub returns-clause-trial_of_many_frames : goal.returns-clause-trial_of_many_frames
unfolding command_of clap_on_literals
returns-clause-trial_of_many_frames c = λ name. refl

pub returns-clause-number_alone_of_a_trial : goal.returns-clause-number_alone_of_a_trial
unfolding command_of clap_on_literals
returns-clause-number_alone_of_a_trial c = λ name. refl

pub returns-clause-trial_alone : goal.returns-clause-trial_alone
unfolding command_of clap_on_literals
returns-clause-trial_alone c = λ name. refl
