mod CheckLaws
mod FileLaws
mod SpellingLaws
mod TellingLaws
mod SpelledLaws
